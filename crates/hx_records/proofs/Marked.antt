-- How the invariant is kept as messages are sent, marked and removed.
use Rattle.std.proofs.Common.{◌≡◌, ℕ, ◌+◌, ◌==◌, ◌&&◌, not, Bool, true, false, List, [], ◌∷◌, ◌++◌, filter, map, find, Option, Some, None, refl, sym, ap, ◌∙◌, subst, arith}
use Rattle.std.specs.Prelude.{if◌then◌else◌, nat_lt, Result, Ok, Err, OnOk, is_err, is_some, is_none}
use Rattle.std.specs.List.{list_any, list_all}
use Rattle.std.specs.Option.{option_map}
use Rattle.std.proofs.lemmas.Bool.Decides.{nat_tests}
use Rattle.hx_ids.specs.declared.StateId.{StateId}
use Rattle.hx_ids.specs.declared.InstanceId.{InstanceId}
use Rattle.hx_ids.specs.declared.SessionId.{SessionId}
use Rattle.hx_ids.specs.declared.MsgId.{MsgId}
use Rattle.hx_ids.specs.declared.PartId.{PartId}
use Rattle.hx_ids.specs.declared.Live.{Live}
use Rattle.hx_counts.specs.Tally.{Numbers}
use Rattle.hx_cluster.specs.declared.state.Row.{Row}
use Rattle.hx_cluster.specs.declared.state.Message.{Message}
use Rattle.hx_cluster.specs.declared.state.Cluster.{Cluster}
use Rattle.hx_cluster.specs.declared.happenings.Proposal.{Proposal}
use Rattle.hx_cluster.specs.declared.happenings.Placed.TheVariants as placings
use Rattle.hx_cluster.specs.declared.happenings.Outcome.{Outcome}
use Rattle.hx_cluster.specs.Ends.{is_session, is_live, state_of, message_of, message_at, instance_in, shown_of}
use Rattle.hx_cluster.specs.Messages.{has_id, pending_of, as_taken, as_written, row_put, state_after, flags_after, written_of, after_take, after_write, message_from, placed_of, placed_idle, after_placed, after_proposal}
use Rattle.hx_cluster.specs.Marks.{write_fault, write_refusal}
use Rattle.hx_cluster.specs.declared.happenings.WriteRefusal.TheVariants as writes
use Rattle.hx_cluster.specs.Steps.{is_dropped}
use Rattle.hx_cluster.specs.Safe.{is_pending}
use Rattle.hx_cluster.proofs.Shown.{instance_in_shown}
use Rattle.hx_safe.proofs.Counting.{all-le, none-from-all, find-none, find-passes, find-any, none-find}
use Rattle.hx_safe.proofs.Ends.{session_same}
use Rattle.hx_safe.proofs.Kept.{IsKept}
use Rattle.hx_safe.proofs.Sending.{room_from, sent_next}
use Rattle.hx_safe.proofs.Throttles.{instance_on}
use Rattle.hx_slots.specs.Tallies.{IsRaised, IsLowered, IsRowLowered, IsLeft, IsPut, IsCounted}
use Rattle.hx_slots.proofs.Listed.{listed_kept}
use Rattle.hx_slots.proofs.Sent.{counted_placed, counted_unsent, counted_taken, counted_marked, message_there}
use Rattle.hx_slots.proofs.Put.{counted_put, outcome_covered}
use Rattle.hx_slots.specs.Kept.{Kept}
use Rattle.hx_records.specs.declared.Records.TheInside.{Inside}
use Rattle.hx_records.specs.Records.{seen, AreRecords}
use Rattle.hx_records.proofs.Insides.{with_slots}

pub on_ok : {T E : Type 0} (r : Result T E) {P : Type 0} → is_err r ≡ false → OnOk r P → P
on_ok (Ok x) e p = p
on_ok (Err x) e p = cc

-- a pending message has its session and its number
message_same : (a b : MsgId) → (a.0 == b.0) ≡ true → a ≡ b
message_same a b e = let same : a.0 ≡ b.0 = grind (arith, nat_tests, e) in ap (λ (n : ℕ). record { 0 = n }) same

pub own_session : (c : Cluster) (s : SessionId) (id : MsgId) (m : Message) → pending_of c s id ≡ Some m → m.session ≡ s
own_session c s id m e = let passes = find-passes (has_id s id) c.mail m e in session_same m.session s (grind (arith, passes))

own_number : (c : Cluster) (s : SessionId) (id : MsgId) (m : Message) → pending_of c s id ≡ Some m → m.id ≡ id
own_number c s id m e = let passes = find-passes (has_id s id) c.mail m e in message_same m.id id (grind (arith, passes))

pub own_named : {X : Type 0} (f : SessionId → MsgId → X) (c : Cluster) (s : SessionId) (id : MsgId) (m : Message) → pending_of c s id ≡ Some m → f m.session m.id ≡ f s id
own_named f c s id m e = (λ i. f (own_session c s id m e i) (own_number c s id m e i))

pub pending_own : (c : Cluster) (s : SessionId) (id : MsgId) (m : Message) → pending_of c s id ≡ Some m → pending_of c m.session m.id ≡ Some m
pending_own c s id m e = own_named (pending_of c) c s id m e ∙ e

-- what is found is there
pub some-any : {X : Type 0} (p : X → Bool) (xs : List X) → is_some (find p xs) ≡ list_any p xs
some-any p [] = refl
some-any p (x ∷ xs) = grind (arith, some-any p xs)

-- the instance of a live session
pub instance_found : (live : List Live) (s : SessionId) (l : Live) → find (is_session s) live ≡ Some l → instance_in (shown_of live) s ≡ Some l.instance
instance_found live s l e = instance_in_shown live s ∙ ap (option_map (λ (x : Live). x.instance)) e

pub live_found : (live : List Live) (s : SessionId) (l : Live) → find (is_session s) live ≡ Some l → is_live live s ≡ true
live_found live s l e = find-any (is_session s) (is_session s) live l e (find-passes (is_session s) live l e)

pub dead_found : (live : List Live) (s : SessionId) → find (is_session s) live ≡ None → is_live live s ≡ false
dead_found live s e = none-find (is_session s) live e

-- a proposal to a session that isn't live
pub placed_dead : (c : Cluster) (q : Proposal) → is_live c.live q.session ≡ false → placings.Ended ≡ placed_of c q
placed_dead c q dead =
    sym (ap (λ (b : Bool). if not b then placings.Ended
    else if is_dropped c.resources q.part.resource && is_none (state_of c.rows q.session q.part) then placings.ResourceDropped
    else placed_idle c q (message_of c.mail q.session q.part)) dead)

pub after_dead : (c : Cluster) (q : Proposal) → is_live c.live q.session ≡ false → c ≡ after_proposal c q
after_dead c q dead = ap (after_placed c q) (placed_dead c q dead)

-- a session that isn't live has no message
dead_other : (c : Cluster) (s : SessionId) (id : MsgId) → is_live c.live s ≡ false → (m : Message) → is_pending c m ≡ true → has_id s id m ≡ false
dead_other c s id dead m is = one (has_id s id m) refl
  where
    one : (b : Bool) → has_id s id m ≡ b → b ≡ false
    one false e = refl
    one true e =
        let same : m.session ≡ s = session_same m.session s (grind (arith, e)) in
        let live : is_live c.live m.session ≡ true = grind (arith, is) in
        let here : is_live c.live s ≡ true = subst (λ (x : SessionId). is_live c.live x ≡ true) same live in
        sym here ∙ dead

pub none_dead : (c : Cluster) (s : SessionId) (id : MsgId) → IsKept c → is_live c.live s ≡ false → pending_of c s id ≡ None
none_dead c s id k dead = find-none (has_id s id) c.mail (none-from-all (is_pending c) (has_id s id) (dead_other c s id dead) c.mail k.mail.pending)

-- a session of which a message is pending is live
live_pending : (c : Cluster) (s : SessionId) (id : MsgId) (m : Message) → IsKept c → pending_of c s id ≡ Some m → is_live c.live s ≡ true
live_pending c s id m k found = one (is_live c.live s) refl
  where
    one : (b : Bool) → is_live c.live s ≡ b → b ≡ true
    one true i = refl
    one false i = let no : None ≡ Some m = sym (none_dead c s id k i) ∙ found in cc

pub refused_write : (c : Cluster) (s : SessionId) (id : MsgId) (m : Message) → IsKept c → pending_of c s id ≡ Some m → write_refusal c s id ≡ write_fault (Some m)
refused_write c s id m k found = ap (λ (b : Bool). if b then write_fault (pending_of c s id) else Some writes.SessionEnded) (live_pending c s id m k found) ∙ ap write_fault found

filter-absent : {X : Type 0} (p : X → Bool) (xs : List X) → find p xs ≡ None → filter (λ x. not (p x)) xs ≡ xs
filter-absent p [] e = refl
filter-absent p (x ∷ xs) e = grind (arith, e, filter-absent p xs)

pub nothing_gone : (c : Cluster) (s : SessionId) (id : MsgId) → pending_of c s id ≡ None → c ≡ record c { mail = filter (λ m. not (has_id s id m)) c.mail }
nothing_gone c s id none = (λ i. record c { mail = sym (filter-absent (has_id s id) c.mail none) i })

-- the numbers of messages are below the next one
pub numbers_below : (c : Cluster) (q : Proposal) (id : MsgId) → IsKept c → placed_of c q ≡ placings.Sent id → list_all (λ (m : Message). nat_lt m.id.0 id.0) c.mail ≡ true
numbers_below c q id k sent =
    let next : id ≡ record { 0 = c.next_msg } = sent_next c q 0 c.rules id (room_from c q id sent).throttles in
    subst (λ (n : ℕ). list_all (λ (m : Message). nat_lt m.id.0 n) c.mail ≡ true) (ap (λ (x : MsgId). x.0) (sym next))
    (all-le (is_pending c) (λ (m : Message). nat_lt m.id.0 c.next_msg) (λ m e. grind (arith, e)) c.mail k.mail.pending)

-- other rows, messages and numbers
pub kept_counts : (a : Inside) (slots : Kept) (counts : Numbers) (rows : List Row) (mail : List Message) → AreRecords a → slots.rows ≡ rows → slots.mail ≡ mail
    → IsCounted (record (seen a) { rows = rows; mail = mail }) counts → IsCounted (record (seen a) { rows = slots.rows; mail = slots.mail }) counts
kept_counts a slots counts rows mail h same_rows same_mail counted =
    subst (λ (rs : List Row). IsCounted (record (seen a) { rows = rs; mail = slots.mail }) counts) (sym same_rows)
    (subst (λ (ms : List Message). IsCounted (record (seen a) { rows = rows; mail = ms }) counts) (sym same_mail) counted)

-- what the rest says of numbers, the whole cluster says
raised_seen : (a : Inside) (i : InstanceId) (has : Option StateId) (m : Message) (k new : Numbers) → IsRaised a.rest i has m k new → IsRaised (seen a) i has m k new
raised_seen a i has m k new r = record { ends = r.ends; loads = r.loads }

pub lowered_seen : (a : Inside) (i : InstanceId) (has : Option StateId) (m : Message) (k new : Numbers) → IsLowered a.rest i has m k new → IsLowered (seen a) i has m k new
lowered_seen a i has m k new l = record { ends = l.ends; loads = l.loads }

pub row_seen : (a : Inside) (p : PartId) (s : StateId) (k new : Numbers) → IsRowLowered a.rest p s k new → IsRowLowered (seen a) p s k new
row_seen a p s k new l = record { ends = l.ends; loads = l.loads }

left_seen : (a : Inside) (p : PartId) (s : StateId) (b : Bool) (k new : Numbers) → IsLeft a.rest p s b k new → IsLeft (seen a) p s b k new
left_seen a p s true k new l = l
left_seen a p s false k new l = row_seen a p s k new l

put_seen : (a : Inside) (m : Message) (has : Option StateId) (k new : Numbers) → IsPut a.rest m has k new → IsPut (seen a) m has k new
put_seen a m None k new l = l
put_seen a m (Some s) k new l = left_seen a m.part s (message_at s (Some m)) k new l

instance_here : (a : Inside) (now : Cluster) (s : SessionId) (i : InstanceId) → seen a ≡ now → instance_in (shown_of now.live) s ≡ Some i → instance_on a.sessions.live s ≡ Some i
instance_here a now s i is at =
    sym (instance_in_shown a.sessions.live s) ∙ subst (λ (v : Cluster). instance_in (shown_of v.live) s ≡ Some i) (sym is) at

-- a message that is sent
pub sent : (a : Inside) (now : Cluster) (q : Proposal) (id : MsgId) (i : InstanceId) (has : Option StateId) (m : Message) (slots : Kept) (counts : Numbers)
    → seen a ≡ now → AreRecords a → IsKept now → placed_of now q ≡ placings.Sent id → instance_in (shown_of now.live) q.session ≡ Some i
    → has ≡ state_of now.rows q.session q.part → m ≡ message_from (seen a) id q → IsRaised a.rest i has m a.counts counts
    → slots.rows ≡ a.slots.rows → slots.mail ≡ a.slots.mail ++ m ∷ []
    → AreRecords (record a { rest = record a.rest { next_msg = a.rest.next_msg + 1; change = a.rest.change + 1 }; slots = slots; counts = counts })
sent a now q id i has m slots counts is h kept placed at stands from raised rows mail =
    let c = seen a in
    let its : IsKept c = subst IsKept (sym is) kept in
    let answer : placed_of c q ≡ placings.Sent id = subst (λ (v : Cluster). placed_of v q ≡ placings.Sent id) (sym is) placed in
    let there : has ≡ state_of a.slots.rows q.session q.part = subst (λ (v : Cluster). has ≡ state_of v.rows q.session q.part) (sym is) stands in
    let more : IsRaised c i (state_of a.slots.rows q.session q.part) (message_from c id q) a.counts counts =
    subst (λ (x : Message). IsRaised c i (state_of a.slots.rows q.session q.part) x a.counts counts) from
    (subst (λ (o : Option StateId). IsRaised c i o m a.counts counts) there (raised_seen a i has m a.counts counts raised)) in
    let counted = counted_placed c q id i a.counts counts (listed_kept c its) h.counted (room_from c q id answer).idle (instance_here a now q.session i is at) more in
    with_slots a slots counts a.rest.resets (a.rest.next_msg + 1) (a.rest.change + 1) h
    (kept_counts a slots counts a.slots.rows (a.slots.mail ++ message_from c id q ∷ []) h rows (mail ∙ ap (λ (x : Message). a.slots.mail ++ x ∷ []) from)
    (record { ends = counted.ends; loads = counted.loads }))

-- a message that is removed
pub removed : (a : Inside) (now : Cluster) (m : Message) (i : InstanceId) (has : Option StateId) (slots : Kept) (counts : Numbers)
    → seen a ≡ now → AreRecords a → IsKept now → instance_in (shown_of now.live) m.session ≡ Some i → pending_of now m.session m.id ≡ Some m
    → has ≡ state_of a.slots.rows m.session m.part → IsLowered a.rest i has m a.counts counts
    → slots.rows ≡ a.slots.rows → slots.mail ≡ filter (λ x. not (has_id m.session m.id x)) a.slots.mail
    → AreRecords (record a { slots = slots; counts = counts })
removed a now m i has slots counts is h kept at found stands lowered rows mail =
    let c = seen a in
    let its : IsKept c = subst IsKept (sym is) kept in
    let here : pending_of c m.session m.id ≡ Some m = subst (λ (v : Cluster). pending_of v m.session m.id ≡ Some m) (sym is) found in
    let less : IsLowered c i (state_of a.slots.rows m.session m.part) m a.counts counts =
    subst (λ (o : Option StateId). IsLowered c i o m a.counts counts) stands (lowered_seen a i has m a.counts counts lowered) in
    with_slots a slots counts a.rest.resets a.rest.next_msg a.rest.change h
    (kept_counts a slots counts a.slots.rows (filter (λ x. not (has_id m.session m.id x)) a.slots.mail) h rows mail
    (counted_unsent c m.session m.id m i a.counts counts (listed_kept c its) h.counted here (instance_here a now m.session i is at) less))

-- a message that is taken
pub taken : (a : Inside) (m : Message) (slots : Kept) → AreRecords a → slots.rows ≡ a.slots.rows → slots.mail ≡ map (as_taken m.session m.id) a.slots.mail
    → AreRecords (record a { rest = record a.rest { change = a.rest.change + 1 }; slots = slots })
taken a m slots h rows mail =
    with_slots a slots a.counts a.rest.resets a.rest.next_msg (a.rest.change + 1) h
    (kept_counts a slots a.counts a.slots.rows (map (as_taken m.session m.id) a.slots.mail) h rows mail (counted_taken (seen a) m.session m.id a.counts h.counted))

pub taken_now : (a : Inside) (now : Cluster) (m : Message) (slots : Kept) → seen a ≡ now → slots.rows ≡ a.slots.rows → slots.mail ≡ map (as_taken m.session m.id) a.slots.mail
    → record (seen a) { rows = slots.rows; mail = slots.mail; change = a.rest.change + 1 } ≡ after_take now m.session m.id
taken_now a now m slots is rows mail =
    (λ i. record (seen a) { rows = rows i; mail = mail i; change = a.rest.change + 1 }) ∙ ap (λ (v : Cluster). after_take v m.session m.id) is

-- an outcome that comes
pub brought : (a : Inside) (now : Cluster) (m : Message) (outcome : Outcome) (has : Option StateId) (slots : Kept) (counts : Numbers) (resets : List (SessionId × PartId))
    → seen a ≡ now → AreRecords a → IsKept now → pending_of now m.session m.id ≡ Some m
    → has ≡ state_of a.slots.rows m.session m.part → IsPut a.rest m has a.counts counts
    → slots.rows ≡ row_put a.slots.rows m.session m.part (state_after m outcome) → slots.mail ≡ map (as_written m.session m.id) a.slots.mail
    → AreRecords (record a { rest = record a.rest { resets = resets; change = a.rest.change + 1 }; slots = slots; counts = counts })
brought a now m outcome has slots counts resets is h kept found stands put rows mail =
    let c = seen a in
    let its : IsKept c = subst IsKept (sym is) kept in
    let here : pending_of c m.session m.id ≡ Some m = subst (λ (v : Cluster). pending_of v m.session m.id ≡ Some m) (sym is) found in
    let left : IsPut c m (state_of a.slots.rows m.session m.part) a.counts counts =
    subst (λ (o : Option StateId). IsPut c m o a.counts counts) stands (put_seen a m has a.counts counts put) in
    let row = counted_put c m (state_after m outcome) a.counts counts (listed_kept c its) h.counted (message_there c m.session m.id m (listed_kept c its) here) (outcome_covered c m outcome (listed_kept c its)) left in
    with_slots a slots counts resets a.rest.next_msg (a.rest.change + 1) h
    (kept_counts a slots counts (row_put a.slots.rows m.session m.part (state_after m outcome)) (map (as_written m.session m.id) a.slots.mail) h rows mail
    (counted_marked (record c { rows = row_put a.slots.rows m.session m.part (state_after m outcome) }) m.session m.id counts row))

pub brought_now : (a : Inside) (now : Cluster) (m : Message) (outcome : Outcome) (slots : Kept) (resets : List (SessionId × PartId))
    → seen a ≡ now → pending_of now m.session m.id ≡ Some m
    → slots.rows ≡ row_put a.slots.rows m.session m.part (state_after m outcome) → slots.mail ≡ map (as_written m.session m.id) a.slots.mail
    → resets ≡ flags_after a.rest.resets m outcome
    → record (seen a) { rows = slots.rows; mail = slots.mail; resets = resets; change = a.rest.change + 1 } ≡ after_write now m.session m.id outcome
brought_now a now m outcome slots resets is found rows mail flags =
    (λ i. record (seen a) { rows = rows i; mail = mail i; resets = flags i; change = a.rest.change + 1 })
    ∙ ap (λ (v : Cluster). written_of v m.session m.id outcome (Some m)) is
    ∙ sym (ap (written_of now m.session m.id outcome) found)
