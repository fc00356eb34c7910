-- What holds of the records' fields as they change.
use Rattle.std.proofs.Common.{◌≡◌, ℕ, zero, suc, ◌+◌, ◌-◌, ◌<◌, ◌≤◌, ◌==◌, not, Bool, true, false, List, [], ◌∷◌, ◌++◌, length, length-append, filter, find, Option, Some, None, refl, sym, ap, ◌∙◌, subst, arith}
use Rattle.std.specs.Prelude.{slice_set, slice_index_or, option_map, replicate}
use Rattle.std.specs.List.{list_all}
use Rattle.hx_lists.specs.Lists.{count}
use Rattle.hx_ids.specs.declared.StateId.{StateId}
use Rattle.hx_ids.specs.declared.SessionId.{SessionId}
use Rattle.hx_ids.specs.declared.InstanceId.{InstanceId}
use Rattle.hx_ids.specs.declared.MsgId.{MsgId}
use Rattle.hx_ids.specs.declared.PartId.{PartId}
use Rattle.hx_ids.specs.declared.Live.{Live}
use Rattle.hx_ids.specs.Sessions.{beaten}
use Rattle.hx_cluster.specs.declared.description.Spec.{Spec}
use Rattle.hx_cluster.specs.declared.state.Row.{Row}
use Rattle.hx_cluster.specs.declared.state.Message.{Message}
use Rattle.hx_cluster.specs.declared.state.Cluster.{Cluster}
use Rattle.hx_cluster.specs.Ends.{is_session, is_row, is_message, state_of, message_of, instance_in, shown_of}
use Rattle.hx_cluster.specs.Steps.{opening, is_of, live_of, session_of}
use Rattle.hx_cluster.specs.Messages.{has_id}
use Rattle.hx_counts.specs.Tally.{Numbers, ends_of, loads_of}
use Rattle.hx_sessions.specs.Sessions.{Sessions, opened}
use Rattle.hx_slots.specs.Kept.{Kept}
use Rattle.std.proofs.lemmas.List.{length-set, length-replicate}
use Rattle.hx_sessions.proofs.Living.{beaten-last}
use Rattle.hx_safe.proofs.Counting.{find-single, find-passes, find-any, any-count}
use Rattle.hx_safe.proofs.Ends.{same-self, part_eq-self, session_same}
use Rattle.hx_safe.proofs.Throttles.{instance_on}
use Rattle.hx_safe.proofs.Whole.{IsWhole}
use Rattle.hx_slots.specs.Tallies.{IsCounted, IsLowered, IsRowLowered}
use Rattle.hx_slots.proofs.Listed.{IsListed, listed_kept}
use Rattle.hx_slots.proofs.Sent.{counted_unsent}
use Rattle.hx_slots.proofs.Put.{counted_row_gone}
use Rattle.hx_slots.proofs.Seated.{counted_left, counted_join, counted_beaten}
use Rattle.hx_slots.proofs.Beside.{counted_opening}
use Rattle.hx_records.specs.declared.Records.TheInside.{Inside}
use Rattle.hx_records.specs.Records.{seen, AreRecords}
use Rattle.hx_records.proofs.Ending.{of_message, of_row}
use Rattle.hx_records.proofs.Seating.{SitAt, sit_join, sit_left, sit_beaten, instance_same}

find-narrow : {X : Type 0} (p q : X → Bool) → ((x : X) → q x ≡ true → p x ≡ true) → (xs : List X) (x : X) → find p xs ≡ Some x → q x ≡ true → find q xs ≡ Some x
find-narrow p q h [] x e here = cc
find-narrow p q h (y ∷ xs) x e here = one (q y) refl (p y) refl (λ later. find-narrow p q h xs x later here)
  where
    one : (b : Bool) → q y ≡ b → (a : Bool) → p y ≡ a → (find p xs ≡ Some x → find q xs ≡ Some x) → find q (y ∷ xs) ≡ Some x
    one true is a at again = let passes = h y is in let same : y ≡ x = grind (arith, e, passes) in grind (arith, is, same)
    one false is true at again = let same : y ≡ x = grind (arith, e, at) in let both : false ≡ true = sym is ∙ ap q same ∙ here in cc
    one false is false at again = let rest = again (grind (arith, e, at)) in grind (arith, is, rest)

none-narrow : {X : Type 0} (p q : X → Bool) → ((x : X) → q x ≡ true → p x ≡ true) → (xs : List X) → find p xs ≡ None → find q xs ≡ None
none-narrow p q h [] e = refl
none-narrow p q h (y ∷ xs) e = one (q y) refl (p y) refl (λ later. none-narrow p q h xs later)
  where
    one : (b : Bool) → q y ≡ b → (a : Bool) → p y ≡ a → (find p xs ≡ None → find q xs ≡ None) → find q (y ∷ xs) ≡ None
    one true is a at again = let passes = h y is in grind (arith, e, passes)
    one false is true at again = grind (arith, e, at)
    one false is false at again = let rest = again (grind (arith, e, at)) in grind (arith, is, rest)

on-instance : (live : List Live) (s : SessionId) → instance_in (shown_of live) s ≡ instance_on live s
on-instance [] s = refl
on-instance (l ∷ live) s = grind (arith, on-instance live s)

with-lists : (a : Inside) (r1 r2 : List Row) (m1 m2 : List Message) → r1 ≡ r2 → m1 ≡ m2
    → ◌≡◌ {A = Cluster} (record a.rest { live = a.sessions.live; rows = r1; mail = m1 }) (record a.rest { live = a.sessions.live; rows = r2; mail = m2 })
with-lists a r1 r2 m1 m2 rows mail =
    ap (λ (rs : List Row). record a.rest { live = a.sessions.live; rows = rs; mail = m1 }) rows
    ∙ ap (λ (ms : List Message). record a.rest { live = a.sessions.live; rows = r2; mail = ms }) mail

-- other rows, messages and numbers that fit them
pub with_slots : (a : Inside) (slots : Kept) (counts : Numbers) (resets : List (SessionId × PartId)) (next_msg change : ℕ) → AreRecords a
    → IsCounted (record (seen a) { rows = slots.rows; mail = slots.mail }) counts
    → AreRecords (record a { rest = record a.rest { resets = resets; next_msg = next_msg; change = change }; slots = slots; counts = counts })
with_slots a slots counts resets next_msg change h counted = record {
  live = h.live;
  rows = h.rows;
  mail = h.mail;
  count = h.count;
  next = h.next;
  places = h.places;
  seats = h.seats;
  counted = record { ends = counted.ends; loads = counted.loads };
}

-- a message is taken out
pub seen_popped : (a : Inside) (slots : Kept) (counts : Numbers) (s : SessionId) (id : MsgId) → slots.rows ≡ a.slots.rows → slots.mail ≡ filter (λ x. not (has_id s id x)) a.slots.mail
    → seen (record a { slots = slots; counts = counts }) ≡ record (seen a) { mail = filter (λ x. not (has_id s id x)) a.slots.mail }
seen_popped a slots counts s id rows mail = with-lists a slots.rows a.slots.rows slots.mail (filter (λ x. not (has_id s id x)) a.slots.mail) rows mail

pub popped : (a : Inside) (slots : Kept) (counts : Numbers) (s : SessionId) (i : InstanceId) (m : Message) (has : Option StateId) → AreRecords a → IsListed (seen a)
    → instance_in (shown_of a.sessions.live) s ≡ Some i → find (of_message s) a.slots.mail ≡ Some m
    → slots.rows ≡ a.slots.rows → slots.mail ≡ filter (λ x. not (has_id s m.id x)) a.slots.mail
    → has ≡ state_of slots.rows s m.part → IsLowered a.rest i has m a.counts counts
    → AreRecords (record a { slots = slots; counts = counts })
popped a slots counts s i m has old listed at found rows mail is lowered =
    with_slots a slots counts a.rest.resets a.rest.next_msg a.rest.change old
    (subst (λ (c : Cluster). IsCounted c counts) (sym (seen_popped a slots counts s m.id rows mail)) (counted_unsent (seen a) s m.id m i a.counts counts listed old.counted pending (sym (on-instance a.sessions.live s) ∙ at) (record { ends = fits.ends; loads = fits.loads })))
  where
    pending : find (has_id s m.id) a.slots.mail ≡ Some m
    pending =
        let here = find-passes (of_message s) a.slots.mail m found in
        find-narrow (of_message s) (has_id s m.id) (λ x e. grind (arith, e)) a.slots.mail m found (grind (arith, here, same-self m.id.0))

    fits : IsLowered a.rest i (state_of a.slots.rows s m.part) m a.counts counts
    fits = subst (λ (o : Option StateId). IsLowered a.rest i o m a.counts counts) (is ∙ ap (λ (rs : List Row). state_of rs s m.part) rows) lowered

-- a row is taken out
pub seen_unrowed : (a : Inside) (slots : Kept) (counts : Numbers) (s : SessionId) (p : PartId) → slots.mail ≡ a.slots.mail → slots.rows ≡ filter (λ x. not (is_row s p x)) a.slots.rows
    → seen (record a { slots = slots; counts = counts }) ≡ record (seen a) { rows = filter (λ x. not (is_row s p x)) a.slots.rows }
seen_unrowed a slots counts s p mail rows = with-lists a slots.rows (filter (λ x. not (is_row s p x)) a.slots.rows) slots.mail a.slots.mail rows mail

pub unrowed : (a : Inside) (slots : Kept) (counts : Numbers) (s : SessionId) (r : Row) → AreRecords a → IsListed (seen a)
    → find (of_message s) a.slots.mail ≡ None → find (of_row s) a.slots.rows ≡ Some r
    → slots.mail ≡ a.slots.mail → slots.rows ≡ filter (λ x. not (is_row s r.part x)) a.slots.rows
    → IsRowLowered a.rest r.part r.state a.counts counts
    → AreRecords (record a { slots = slots; counts = counts })
unrowed a slots counts s r old listed none found mail rows lowered =
    with_slots a slots counts a.rest.resets a.rest.next_msg a.rest.change old
    (subst (λ (c : Cluster). IsCounted c counts) (sym (seen_unrowed a slots counts s r.part mail rows)) (counted_row_gone (seen a) s r.part r.state a.counts counts listed old.counted idle state (record { ends = lowered.ends; loads = lowered.loads })))
  where
    idle : message_of a.slots.mail s r.part ≡ None
    idle = none-narrow (of_message s) (is_message s r.part) (λ x e. grind (arith, e)) a.slots.mail none

    state : state_of a.slots.rows s r.part ≡ Some r.state
    state =
        let here = find-passes (of_row s) a.slots.rows r found in
        ap (λ (o : Option Row). option_map (λ x. x.state) o)
        (find-narrow (of_row s) (is_row s r.part) (λ x e. grind (arith, e)) a.slots.rows r found (grind (arith, here, part_eq-self r.part)))

-- a session leaves
length-apart : {X : Type 0} (q : X → Bool) (xs : List X) → length (filter (λ y. not (q y)) xs) + count q xs ≡ length xs
length-apart q [] = refl
length-apart q (z ∷ xs) = grind (arith, length-apart q xs)

pub length-without : {X : Type 0} (p q : X → Bool) (xs : List X) (x : X) → find p xs ≡ Some x → q x ≡ true → count q xs ≤ 1 → length (filter (λ y. not (q y)) xs) + 1 ≡ length xs
length-without p q xs x e here once =
    let some = any-count q xs (find-any p q xs x e here) in
    omega (arith, length-apart q xs, some, once)

-- the live session of an instance, and that it is live
pub record IsIn (live : List Live) (i : InstanceId) (s : SessionId) : Type 0 where
  pub at : Live
  pub found : live_of live i ≡ Some at
  pub its : at.session ≡ s
  pub here : is_session s at ≡ true
  pub some : 0 < length live

some-found : {X : Type 0} (p : X → Bool) (xs : List X) (x : X) → find p xs ≡ Some x → 0 < length xs
some-found p [] x e = cc
some-found p (y ∷ xs) x e = omega arith

pub is_in : (live : List Live) (i : InstanceId) (s : SessionId) → option_map (λ l. l.session) (live_of live i) ≡ Some s → IsIn live i s
is_in live i s e = one (live_of live i) refl e
  where
    one : (o : Option Live) → live_of live i ≡ o → option_map (λ l. l.session) o ≡ Some s → IsIn live i s
    one None is w = cc
    one (Some l) is w =
        let same : l.session ≡ s = grind (arith, w) in
        record { at = l; found = is; its = same; here = ap (λ (u : SessionId). u.0 == s.0) same ∙ same-self s.0; some = some-found (is_of i) live l is }

pub seated_on : (live : List Live) (i : InstanceId) (s : SessionId) → option_map (λ l. l.session) (live_of live i) ≡ Some s → count (is_session s) live ≤ 1
    → instance_in (shown_of live) s ≡ Some i
seated_on live i s e once =
    let l = is_in live i s e in
    let found = find-single (is_of i) (is_session s) live l.at l.found l.here once in
    on-instance live s ∙ ap (λ (o : Option Live). option_map (λ x. x.instance) o) found
    ∙ ap (λ (j : InstanceId). Some j) (instance_same l.at.instance i (find-passes (is_of i) live l.at l.found))

pub found_at : (live : List Live) (s : SessionId) (l : Live) → find (is_session s) live ≡ Some l → count (is_of l.instance) live ≤ 1
    → option_map (λ x. x.session) (live_of live l.instance) ≡ Some s
found_at live s l found once =
    ap (λ (o : Option Live). option_map (λ x. x.session) o) (find-single (is_session s) (is_of l.instance) live l found (same-self l.instance.0) once)
    ∙ ap (λ (u : SessionId). Some u) (session_same l.session s (find-passes (is_session s) live l found))

pub left : (a : Inside) (sessions : Sessions) (flags : List (SessionId × PartId)) (seats : List (Option SessionId)) (i : InstanceId) (s : SessionId) → AreRecords a
    → count (is_session s) a.sessions.live ≤ 1 → count (is_of i) a.sessions.live ≤ 1 → session_of (seen a) i ≡ Some s
    → list_all (λ r. not (r.session.0 == s.0)) a.slots.rows ≡ true → list_all (λ m. not (m.session.0 == s.0)) a.slots.mail ≡ true
    → sessions.live ≡ filter (λ x. not (is_session s x)) a.sessions.live → sessions.next ≡ a.sessions.next → seats ≡ slice_set a.seats i.0 None
    → AreRecords (record a { rest = record a.rest { resets = flags; change = a.rest.change + 1 }; sessions = sessions; live = a.live - 1; seats = seats })
left a sessions flags seats i s old once single at rows mail live next set =
    let l = is_in a.sessions.live i s at in
    let less = length-without (is_of i) (is_session s) a.sessions.live l.at l.found l.here once in
    let number = old.count in
    let shorter = ap (λ (ls : List Live). length ls) live in
    let counted = counted_left (seen a) s a.counts rows mail old.counted in
    let sit = sit_left a.seats a.sessions.live i s l.at l.found l.here once single old.seats in
    record {
      live = old.live;
      rows = old.rows;
      mail = old.mail;
      count = omega (arith, less, number, shorter);
      next = next ∙ old.next;
      places = ap (λ (xs : List (Option SessionId)). length xs) set ∙ length-set a.seats i.0 None ∙ old.places;
      seats = subst (λ (xs : List (Option SessionId)). SitAt xs sessions.live) (sym set) (subst (λ (ls : List Live). SitAt (slice_set a.seats i.0 None) ls) (sym live) sit);
      counted = subst (λ (ls : List Live). IsCounted (record a.rest { live = ls; rows = a.slots.rows; mail = a.slots.mail; resets = flags; change = a.rest.change + 1 }) a.counts) (sym live)
          (record { ends = counted.ends; loads = counted.loads });
    }

-- a session joins
pub joined : (a : Inside) (sessions : Sessions) (seats : List (Option SessionId)) (i : InstanceId) (s : SessionId) → AreRecords a → IsWhole (seen a) → live_of a.sessions.live i ≡ None → i.0 < length a.seats
    → s.0 ≡ a.sessions.next → sessions ≡ opened a.sessions i a.rest.clock → seats ≡ slice_set a.seats i.0 (Some s)
    → AreRecords (record a { rest = record a.rest { next_session = a.rest.next_session + 1; change = a.rest.change + 1 }; sessions = sessions; live = a.live + 1; seats = seats })
joined a sessions seats i s old whole free fits number is set = subst
    (λ (x : Sessions). AreRecords (record a { rest = record a.rest { next_session = a.rest.next_session + 1; change = a.rest.change + 1 }; sessions = x; live = a.live + 1; seats = seats }))
    (sym is)
    (record {
      live = old.live;
      rows = old.rows;
      mail = old.mail;
      count = let n = old.count in let more = length-append a.sessions.live (new ∷ []) in omega (arith, n, more);
      next = ap (λ (n : ℕ). n + 1) old.next;
      places = ap (λ (xs : List (Option SessionId)). length xs) set ∙ length-set a.seats i.0 (Some s) ∙ old.places;
      seats = subst (λ (xs : List (Option SessionId)). SitAt xs (a.sessions.live ++ new ∷ [])) (sym set)
          (subst (λ (u : SessionId). SitAt (slice_set a.seats i.0 (Some u)) (a.sessions.live ++ new ∷ [])) (sym its) (sit_join a.seats a.sessions.live i new refl fits free old.seats));
      counted = let counted = counted_join (seen a) i a.counts whole.kept old.counted in
          subst (λ (n : ℕ). IsCounted (record a.rest { live = a.sessions.live ++ (record { session = record { 0 = n }; instance = i; beat = a.rest.clock }) ∷ []; rows = a.slots.rows; mail = a.slots.mail; next_session = a.rest.next_session + 1; change = a.rest.change + 1 }) a.counts)
          (sym old.next) (record { ends = counted.ends; loads = counted.loads });
    })
  where
    new : Live
    new = record { session = record { 0 = a.sessions.next }; instance = i; beat = a.rest.clock }

    its : s ≡ new.session
    its = ap (λ (n : ℕ). record { 0 = n }) number

-- a session is heard of
pub beaten_one : (live : List Live) (i : InstanceId) (s : SessionId) (clock : ℕ) (l : IsIn live i s) → ((u : SessionId) → count (is_session u) live ≤ 1)
    → beaten s clock live ≡ filter (λ x. not (is_session l.at.session x)) live ++ (record l.at { beat = clock }) ∷ []
beaten_one live i s clock l once =
    let found = find-single (is_of i) (is_session s) live l.at l.found l.here (once s) in
    beaten-last s l.at clock live once found
    ∙ ap (λ (u : SessionId). filter (λ x. not (is_session u x)) live ++ (record l.at { beat = clock }) ∷ []) (sym l.its)

same-many : (live : List Live) (i : InstanceId) (clock : ℕ) (l : Live) → live_of live i ≡ Some l → count (is_session l.session) live ≤ 1
    → length (filter (λ x. not (is_session l.session x)) live ++ (record l { beat = clock }) ∷ []) ≡ length live
same-many live i clock l found once =
    let less = length-without (is_of i) (is_session l.session) live l found (same-self l.session.0) once in
    let more = length-append (filter (λ x. not (is_session l.session x)) live) ((record l { beat = clock }) ∷ []) in
    omega (arith, less, more)

pub heard : (a : Inside) (sessions : Sessions) (i : InstanceId) (s : SessionId) → AreRecords a → IsWhole (seen a) → session_of (seen a) i ≡ Some s
    → sessions.live ≡ beaten s a.rest.clock a.sessions.live → sessions.next ≡ a.sessions.next
    → AreRecords (record a { sessions = sessions })
heard a sessions i s old whole at live next =
    let l = is_in a.sessions.live i s at in
    let same = live ∙ beaten_one a.sessions.live i s a.rest.clock l whole.kept.numbers in
    let counted = counted_beaten (seen a) i l.at a.counts (listed_kept (seen a) whole.kept) l.found old.counted in
    record {
      live = old.live;
      rows = old.rows;
      mail = old.mail;
      count = old.count ∙ sym (ap (λ (ls : List Live). length ls) same ∙ same-many a.sessions.live i a.rest.clock l.at l.found (whole.kept.numbers l.at.session));
      next = next ∙ old.next;
      places = old.places;
      seats = subst (λ (ls : List Live). SitAt a.seats ls) (sym same) (sit_beaten a.seats a.sessions.live i l.at a.rest.clock l.found (whole.kept.numbers l.at.session) (whole.seated.instances i) old.seats);
      counted = subst (λ (ls : List Live). IsCounted (record a.rest { live = ls; rows = a.slots.rows; mail = a.slots.mail }) a.counts) (sym same) (record { ends = counted.ends; loads = counted.loads });
    }

-- nobody is live at the opening
abbrev pub nobody : Option SessionId
nobody = None

none-at : (n k : ℕ) → slice_index_or (replicate n nobody) k None ≡ None
none-at zero k = refl
none-at (suc n) zero = refl
none-at (suc n) (suc k) = none-at n k

pub seen_opening : (spec : Spec) (a : Inside) → a.rest ≡ opening spec → a.sessions.live ≡ [] → a.slots.rows ≡ [] → a.slots.mail ≡ [] → seen a ≡ opening spec
seen_opening spec a rest live rows mail =
    ap (λ (ls : List Live). record a.rest { live = ls; rows = a.slots.rows; mail = a.slots.mail }) live
    ∙ ap (λ (rs : List Row). record a.rest { live = []; rows = rs; mail = a.slots.mail }) rows
    ∙ ap (λ (ms : List Message). record a.rest { live = []; rows = []; mail = ms }) mail
    ∙ ap (λ (c : Cluster). record c { live = []; rows = []; mail = [] }) rest

pub opened_records : (spec : Spec) (a : Inside) → a.rest ≡ opening spec → a.sessions.live ≡ [] → a.sessions.next ≡ 1 → a.live ≡ 0 → a.seats ≡ replicate (length spec.instances) None
    → a.slots.rows ≡ [] → a.slots.mail ≡ [] → ((p : PartId) (t : StateId) → ends_of a.counts p t ≡ 0) → ((n key : ℕ) → loads_of a.counts n key ≡ 0) → AreRecords a
opened_records spec a rest live next none seats rows mail ends loads = record {
  live = ap (λ (c : Cluster). c.live) rest;
  rows = ap (λ (c : Cluster). c.rows) rest;
  mail = ap (λ (c : Cluster). c.mail) rest;
  count = none ∙ sym (ap (λ (ls : List Live). length ls) live);
  next = next ∙ sym (ap (λ (c : Cluster). c.next_session) rest);
  places = ap (λ (xs : List (Option SessionId)). length xs) seats ∙ length-replicate (length spec.instances) None ∙ sym (ap (λ (c : Cluster). length c.instances) rest ∙ length-replicate (length spec.instances) false);
  seats = λ i. ap (λ (xs : List (Option SessionId)). slice_index_or xs i.0 None) seats ∙ none-at (length spec.instances) i.0 ∙ sym (ap (λ (ls : List Live). option_map (λ l. l.session) (live_of ls i)) live);
  counted = subst (λ (c : Cluster). IsCounted c a.counts) (sym (seen_opening spec a rest live rows mail)) (counted_opening spec a.counts ends loads);
}
