-- A number that was taken is taken no more, and the runs of a replica come in order of number.
use Rattle.std.proofs.Common.{◌≡◌, ◌≤◌, ◌||◌, ◌==◌, not, Bool, true, false, List, [], ◌∷◌, length, filter, Option, Some, None, refl, sym, ap, ◌∙◌, subst, arith}
use Rattle.std.specs.Prelude.{if◌then◌else◌, nat_lt, nat_le, is_none}
use Rattle.std.specs.List.{list_all}
use Rattle.std.proofs.lemmas.Bool.Decides.{nat_tests}
use Rattle.hx_lists.specs.Lists.{count}
use Rattle.hx_ids.specs.declared.SessionId.{SessionId}
use Rattle.hx_ids.specs.declared.MsgId.{MsgId}
use Rattle.hx_cluster.specs.declared.state.Message.{Message}
use Rattle.hx_cluster.specs.declared.state.Cluster.{Cluster}
use Rattle.hx_cluster.specs.declared.happenings.TakeFault.TheVariants as takings
use Rattle.hx_cluster.specs.declared.happenings.Event.{Event}
use Rattle.hx_cluster.specs.declared.happenings.Event.TheVariants as events
use Rattle.hx_cluster.specs.Ends.{is_message, is_live}
use Rattle.hx_cluster.specs.Messages.{has_id, as_taken, pending_of, after_take}
use Rattle.hx_cluster.specs.Marks.{take_fault}
use Rattle.hx_cluster.specs.Events.{next, can_take, IsStep, IsLegal}
use Rattle.hx_cluster.specs.Safe.{is_pending}
use Rattle.hx_cluster.specs.Runs.{takes, taken_by, put_first, runs_of, is_same_replica, is_below_later, numbers_rise}
use Rattle.hx_safe.proofs.Counting.{and-both, and-first, all-map, all-find, all-single, find-passes, find-single}
use Rattle.hx_safe.proofs.Ends.{session_same}
use Rattle.hx_safe.proofs.Whole.{IsWhole, whole_next}
use Rattle.hx_safe.proofs.Writing.{message_here}
use Rattle.hx_safe.proofs.Mail.{next_msg_next, all_next}

-- a message that can be taken
pub record IsTake (c : Cluster) (s : SessionId) (id : MsgId) : Type 0 where
  pub message : Message
  pub found : pending_of c s id ≡ Some message
  pub untaken : message.taken ≡ false
  pub live : is_live c.live s ≡ true

pub take_from : (c : Cluster) (s : SessionId) (id : MsgId) → can_take c s id ≡ true → IsTake c s id
take_from c s id e = one (is_live c.live s) refl (pending_of c s id) refl e
  where
    untaken : (b : Bool) → is_none (if b then Some takings.AlreadyTaken else None) ≡ true → b ≡ false
    untaken true e = cc
    untaken false e = refl

    one : (live : Bool) → is_live c.live s ≡ live → (o : Option Message) → pending_of c s id ≡ o → is_none (if live then take_fault o else Some takings.SessionEnded) ≡ true → IsTake c s id
    one false is o at e = cc
    one true is None at e = cc
    one true is (Some m) at e = record { message = m; found = at; untaken = untaken m.taken e; live = is }

-- a message that an event takes was pending, untaken, and of a live session
pub record IsTaken (c : Cluster) (m : Message) : Type 0 where
  pub there : (q : Message → Bool) → list_all q c.mail ≡ true → q m ≡ true
  pub untaken : m.taken ≡ false
  pub live : is_live c.live m.session ≡ true

taken_at : (c : Cluster) (s : SessionId) (id : MsgId) → can_take c s id ≡ true → (m : Message) → pending_of c s id ≡ Some m → IsTaken c m
taken_at c s id can m found =
    let take = take_from c s id can in
    let same : take.message ≡ m = some_same take.message m (sym take.found ∙ found) in
    let here : has_id s id m ≡ true = find-passes (has_id s id) c.mail m found in
    record {
      there = λ q all. all-find q (has_id s id) c.mail m all found;
      untaken = sym (ap (λ (x : Message). x.taken) same) ∙ take.untaken;
      live = subst (λ (u : SessionId). is_live c.live u ≡ true) (sym (session_same m.session s (and-first (m.session.0 == s.0) (m.id.0 == id.0) here))) take.live;
    }
  where
    some_same : (a b : Message) → ◌≡◌ {A = Option Message} (Some a) (Some b) → a ≡ b
    some_same a b e = cc

pub taken_message : (c : Cluster) (e : Event) → IsStep c e → (m : Message) → taken_by c e ≡ Some m → IsTaken c m
taken_message c (events.Take s id) step m e = taken_at c s id step m e
taken_message c _ step m e = cc

-- a number that was given, and of which no message waits for its take
abbrev is_spent : MsgId → Message → Bool
is_spent id m = not (m.id.0 == id.0) || m.taken

record IsSpent (c : Cluster) (id : MsgId) : Type 0 where
  below : nat_lt id.0 c.next_msg ≡ true
  taken : list_all (is_spent id) c.mail ≡ true

spent_next : (c : Cluster) (e : Event) (id : MsgId) → IsSpent c id → IsSpent (next c e) id
spent_next c e id h = record {
  below = let more = next_msg_next c e in grind (arith, nat_tests, h.below, more);
  taken = all_next (is_spent id) (record { taken = λ m w. marked (m.id.0 == id.0); written = λ m w. w }) c e (λ m low. grind (arith, nat_tests, low, h.below)) h.taken;
}
  where
    marked : (b : Bool) → (not b || true) ≡ true
    marked true = refl
    marked false = refl

not_again : (c : Cluster) (e : Event) (id : MsgId) → IsSpent c id → IsStep c e → takes id e ≡ false
not_again c (events.Take s n) id h step =
    let take = take_from c s n step in
    let here : has_id s n take.message ≡ true = find-passes (has_id s n) c.mail take.message take.found in
    let spent : is_spent id take.message ≡ true = all-find (is_spent id) (has_id s n) c.mail take.message h.taken take.found in
    one (n.0 == id.0) refl take.message here spent take.untaken
  where
    one : (b : Bool) → (n.0 == id.0) ≡ b → (m : Message) → has_id s n m ≡ true → is_spent id m ≡ true → m.taken ≡ false → b ≡ false
    one false is m here spent untaken = refl
    one true is m here spent untaken = absurd (grind (arith, nat_tests, is, here, spent, untaken))
not_again c _ id h legal = refl

none_taken : (c : Cluster) (h : List Event) (id : MsgId) → IsSpent c id → IsLegal c h → count (takes id) h ≡ 0
none_taken c [] id spent legal = refl
none_taken c (e ∷ es) id spent legal =
    let first = not_again c e id spent legal.0 in
    let rest = none_taken (next c e) es id (spent_next c e id spent) legal.1 in
    grind (arith, first, rest)

spent_at : (c : Cluster) (s : SessionId) (n id : MsgId) → IsWhole c → can_take c s n ≡ true → (n.0 == id.0) ≡ true → IsSpent (after_take c s n) id
spent_at c s n id w can same =
    let take = take_from c s n can in
    let m = take.message in
    let here : has_id s n m ≡ true = find-passes (has_id s n) c.mail m take.found in
    let number : (m.id.0 == n.0) ≡ true = grind (arith, here) in
    let pending : is_pending c m ≡ true = all-find (is_pending c) (has_id s n) c.mail m w.kept.mail.pending take.found in
    let low : nat_lt m.id.0 c.next_msg ≡ true = grind (arith, pending) in
    record {
      below = grind (arith, nat_tests, low, number, same);
      taken = all-map (is_spent id) (as_taken s n) c.mail ∙ all-single (λ x. x.id.0 == n.0) (is_pending c) (λ x. is_spent id (as_taken s n x)) c.mail m
          (λ x other p. each x (has_id s n x) other) (find-single (has_id s n) (λ x. x.id.0 == n.0) c.mail m take.found number (w.kept.mail.numbers n))
          (w.kept.mail.numbers n) (this m (has_id s n m) here) w.kept.mail.pending;
    }
  where
    each : (x : Message) (b : Bool) → (x.id.0 == n.0) ≡ false → is_spent id (if b then record x { taken = true } else x) ≡ true
    each x true other = grind (arith, nat_tests, other, same)
    each x false other = grind (arith, nat_tests, other, same)

    this : (x : Message) (b : Bool) → b ≡ true → is_spent id (if b then record x { taken = true } else x) ≡ true
    this x true e = one (x.id.0 == id.0)
      where
        one : (d : Bool) → (not d || true) ≡ true
        one true = refl
        one false = refl
    this x false e = cc

spent_by : (c : Cluster) (e : Event) (id : MsgId) → IsWhole c → IsStep c e → takes id e ≡ true → IsSpent (next c e) id
spent_by c (events.Take s n) id w step e = spent_at c s n id w step e
spent_by c _ id w legal e = cc

pub taken_once : (c : Cluster) (h : List Event) (id : MsgId) → IsWhole c → IsLegal c h → count (takes id) h ≤ 1
taken_once c [] id w legal = omega arith
taken_once c (e ∷ es) id w legal = one (takes id e) refl (taken_once (next c e) es id (whole_next c e w legal.0) legal.1)
  where
    one : (b : Bool) → takes id e ≡ b → count (takes id) es ≤ 1 → length (if b then e ∷ filter (takes id) es else filter (takes id) es) ≤ 1
    one true is rest = let none = none_taken (next c e) es id (spent_by c e id w legal.0 is) legal.1 in grind (arith, none)
    one false is rest = rest

-- no message of a replica waits for its take with a lower number than one that was taken
abbrev is_past : Message → Message → Bool
is_past m x = not (is_message m.session m.part x) || (x.taken || nat_lt m.id.0 x.id.0)

record IsPast (c : Cluster) (m : Message) : Type 0 where
  below : nat_lt m.id.0 c.next_msg ≡ true
  rest : list_all (is_past m) c.mail ≡ true

past_next : (c : Cluster) (e : Event) (m : Message) → IsPast c m → IsPast (next c e) m
past_next c e m h = record {
  below = let more = next_msg_next c e in grind (arith, nat_tests, h.below, more);
  rest = all_next (is_past m) (record { taken = λ x w. marked (is_message m.session m.part x); written = λ x w. w }) c e (λ x low. later x low) h.rest;
}
  where
    marked : (b : Bool) → (not b || true) ≡ true
    marked true = refl
    marked false = refl

    either : (a b d : Bool) → d ≡ true → (not a || (b || d)) ≡ true
    either true true true e = refl
    either true false true e = refl
    either false b true e = refl
    either a b false e = cc

    later : (x : Message) → nat_le c.next_msg x.id.0 ≡ true → is_past m x ≡ true
    later x low =
        let above : nat_lt m.id.0 x.id.0 ≡ true = grind (arith, nat_tests, low, h.below) in
        either (is_message m.session m.part x) x.taken (nat_lt m.id.0 x.id.0) above

below_later : (c : Cluster) (h : List Event) (m : Message) → IsPast c m → IsLegal c h → is_below_later m (runs_of c h) ≡ true
below_later c [] m past legal = refl
below_later c (e ∷ es) m past legal = one (taken_by c e) refl (below_later (next c e) es m (past_next c e m past) legal.1)
  where
    later : (n : Message) → IsTaken c n → (not (is_same_replica m (Some n)) || nat_lt m.id.0 n.id.0) ≡ true
    later n taken = either (is_message m.session m.part n) n.taken (nat_lt m.id.0 n.id.0) (taken.there (is_past m) past.rest) taken.untaken
      where
        either : (a b d : Bool) → (not a || (b || d)) ≡ true → b ≡ false → (not a || d) ≡ true
        either true true d e u = cc
        either true false d e u = e
        either false b d e u = refl

    one : (o : Option Message) → taken_by c e ≡ o → is_below_later m (runs_of (next c e) es) ≡ true → is_below_later m (put_first o (runs_of (next c e) es)) ≡ true
    one None is rest = rest
    one (Some n) is rest =
        and-both (not (is_same_replica m (Some n)) || nat_lt m.id.0 n.id.0) (is_below_later m (runs_of (next c e) es)) (later n (taken_message c e legal.0 n is)) rest

past_at : (c : Cluster) (s : SessionId) (id : MsgId) → IsWhole c → can_take c s id ≡ true → (m : Message) → pending_of c s id ≡ Some m → IsPast (after_take c s id) m
past_at c s id w can m found =
    let here : has_id s id m ≡ true = find-passes (has_id s id) c.mail m found in
    let pending : is_pending c m ≡ true = all-find (is_pending c) (has_id s id) c.mail m w.kept.mail.pending found in
    record {
      below = grind (arith, pending);
      rest = all-map (is_past m) (as_taken s id) c.mail ∙ all-single (is_message m.session m.part) (is_pending c) (λ x. is_past m (as_taken s id x)) c.mail m
          (λ x other p. each x (has_id s id x) other) (message_here c s id m w.kept.mail found) (w.kept.mail.single m.session m.part)
          (this m (has_id s id m) here) w.kept.mail.pending;
    }
  where
    out : (a b : Bool) → a ≡ false → (not a || b) ≡ true
    out true b e = cc
    out false b e = refl

    each : (x : Message) (b : Bool) → is_message m.session m.part x ≡ false → is_past m (if b then record x { taken = true } else x) ≡ true
    each x true other = out (is_message m.session m.part x) (true || nat_lt m.id.0 x.id.0) other
    each x false other = out (is_message m.session m.part x) (x.taken || nat_lt m.id.0 x.id.0) other

    marked : (a : Bool) → (not a || true) ≡ true
    marked true = refl
    marked false = refl

    this : (x : Message) (b : Bool) → b ≡ true → is_past m (if b then record x { taken = true } else x) ≡ true
    this x true e = marked (is_message m.session m.part x)
    this x false e = cc

past_by : (c : Cluster) (e : Event) → IsWhole c → IsStep c e → (m : Message) → taken_by c e ≡ Some m → IsPast (next c e) m
past_by c (events.Take s id) w step m e = past_at c s id w step m e
past_by c _ w step m e = cc

pub runs_rise : (c : Cluster) (h : List Event) → IsWhole c → IsLegal c h → numbers_rise (runs_of c h) ≡ true
runs_rise c [] w legal = refl
runs_rise c (e ∷ es) w legal = one (taken_by c e) refl (runs_rise (next c e) es (whole_next c e w legal.0) legal.1)
  where
    one : (o : Option Message) → taken_by c e ≡ o → numbers_rise (runs_of (next c e) es) ≡ true → numbers_rise (put_first o (runs_of (next c e) es)) ≡ true
    one None is rest = rest
    one (Some m) is rest =
        and-both (is_below_later m (runs_of (next c e) es)) (numbers_rise (runs_of (next c e) es)) (below_later (next c e) es m (past_by c e w legal.0 m is) legal.1) rest
