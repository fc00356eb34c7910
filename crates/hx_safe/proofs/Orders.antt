-- Rows and flags stay by session, then part, and messages by number.
use Rattle.std.proofs.Common.{◌≡◌, ℕ, ◌+◌, ◌||◌, ◌==◌, not, Bool, true, false, List, [], ◌∷◌, ◌++◌, filter, map, Option, Some, None, refl, ap, ◌∙◌, arith}
use Rattle.std.specs.Prelude.{if◌then◌else◌, nat_lt, nat_le}
use Rattle.std.specs.List.{list_any, list_all}
use Rattle.std.proofs.lemmas.Bool.{cond_both}
use Rattle.std.proofs.lemmas.Bool.Decides.{nat_tests}
use Rattle.hx_lists.specs.Lists.{insert_by}
use Rattle.hx_ids.specs.declared.StateId.{StateId}
use Rattle.hx_ids.specs.declared.SessionId.{SessionId}
use Rattle.hx_ids.specs.declared.MsgId.{MsgId}
use Rattle.hx_ids.specs.declared.ControllerId.{ControllerId}
use Rattle.hx_ids.specs.declared.PartId.{PartId}
use Rattle.hx_ids.specs.declared.Live.{Live}
use Rattle.hx_model.specs.Model.{dropped}
use Rattle.hx_cluster.specs.declared.state.Row.{Row}
use Rattle.hx_cluster.specs.declared.state.Message.{Message}
use Rattle.hx_cluster.specs.declared.state.Cluster.{Cluster}
use Rattle.hx_cluster.specs.declared.happenings.StepFault.TheVariants as faults
use Rattle.hx_cluster.specs.declared.happenings.Proposal.{Proposal}
use Rattle.hx_cluster.specs.declared.happenings.Placed.{Placed}
use Rattle.hx_cluster.specs.declared.happenings.Placed.TheVariants as placings
use Rattle.hx_cluster.specs.declared.happenings.Outcome.{Outcome}
use Rattle.hx_cluster.specs.declared.happenings.Outcome.TheVariants as outcomes
use Rattle.hx_cluster.specs.declared.happenings.Admin.{Admin}
use Rattle.hx_cluster.specs.declared.happenings.Admin.TheVariants as steps
use Rattle.hx_cluster.specs.declared.happenings.Event.{Event}
use Rattle.hx_cluster.specs.declared.happenings.Event.TheVariants as events
use Rattle.hx_cluster.specs.Ends.{is_row, parts_of, state_of}
use Rattle.hx_cluster.specs.Steps.{refusal_of, after, without, beaten_of, ended_by, live_of, flag_before, is_flag, is_error, reset_fault, asked_of}
use Rattle.hx_cluster.specs.Messages.{placed_of, message_from, after_placed, after_proposal, next_pass, after_dispatch, has_id, pending_of, row_before, restated, row_put, state_after, flags_after, written_of, after_write}
use Rattle.hx_cluster.specs.Events.{next, is_proposable, IsStep}
use Rattle.hx_cluster.specs.Safe.{is_pending}
use Rattle.hx_safe.specs.Ordered.{rises, number_before, IsOrdered}
use Rattle.hx_safe.proofs.Counting.{all-append, all-le, all-map, all-filter, all-insert}
use Rattle.hx_safe.proofs.Ending.{along_without_all, along_end}
use Rattle.hx_safe.proofs.Kept.{IsKept}
use Rattle.hx_safe.proofs.Sending.{room_from, sent_next, along_dispatch}
use Rattle.hx_safe.proofs.Beside.{IsBeside, beside_step, beside_pass}

-- lists in an order
pub rises-filter : {X : Type 0} (before : X → X → Bool) (k : X → Bool) (xs : List X) → rises before xs ≡ true → rises before (filter k xs) ≡ true
rises-filter before k [] e = refl
rises-filter before k (x ∷ xs) e = grind (arith, e, rises-filter before k xs, all-filter (before x) k xs)

all-same : {X : Type 0} (p q : X → Bool) (h : (x : X) → p x ≡ q x) (xs : List X) → list_all p xs ≡ list_all q xs
all-same p q h [] = refl
all-same p q h (x ∷ xs) = grind (arith, h x, all-same p q h xs)

pub rises-map : {X : Type 0} (before : X → X → Bool) (f : X → X) (h : (x y : X) → before (f x) (f y) ≡ before x y) (xs : List X) → rises before (map f xs) ≡ rises before xs
rises-map before f h [] = refl
rises-map before f h (x ∷ xs) =
    let here : list_all (before (f x)) (map f xs) ≡ list_all (before x) xs
    = all-map (before (f x)) f xs ∙ all-same (λ y. before (f x) (f y)) (before x) (h x) xs in
    grind (arith, here, rises-map before f h xs)

pub rises-push : {X : Type 0} (before : X → X → Bool) (xs : List X) (x : X) → rises before xs ≡ true → list_all (λ y. before y x) xs ≡ true → rises before (xs ++ x ∷ []) ≡ true
rises-push before [] x e low = refl
rises-push before (y ∷ xs) x e low = grind (arith, e, low, rises-push before xs x, all-append (before y) xs (x ∷ []))

pub rises-insert : {X : Type 0} (before : X → X → Bool) (h : (x y z : X) → before x y ≡ true → before y z ≡ true → before x z ≡ true) (x : X) (xs : List X)
    → rises before xs ≡ true → list_all (λ y. before y x || before x y) xs ≡ true → rises before (insert_by before x xs) ≡ true
rises-insert before h x [] e either = refl
rises-insert {X} before h x (y ∷ ys) e either = one (before y x) refl (λ more low. rises-insert before h x ys more low)
  where
    one : (b : Bool) → before y x ≡ b
        → (rises before ys ≡ true → list_all (λ z. before z x || before x z) ys ≡ true → rises before (insert_by before x ys) ≡ true)
        → rises before (if b then y ∷ insert_by before x ys else x ∷ y ∷ ys) ≡ true
    one true is rest =
        let more : rises before (insert_by before x ys) ≡ true = rest (grind (arith, e)) (grind (arith, either)) in
        grind (arith, is, e, more, all-insert (before y) before x ys)
    one false is rest =
        let first : before x y ≡ true = grind (arith, is, either) in
        grind (arith, e, first, all-le (before y) (before x) (λ z w. h x y z first w) ys)

-- the orders of rows and flags
row-between : (a b d : Row) → row_before a b ≡ true → row_before b d ≡ true → row_before a d ≡ true
row-between a b d one two = grind (arith, nat_tests, one, two)

flag-between : (a b d : SessionId × PartId) → flag_before a b ≡ true → flag_before b d ≡ true → flag_before a d ≡ true
flag-between a b d one two = grind (arith, nat_tests, one, two)

row-either : (s : SessionId) (p : PartId) (st : StateId) (rows : List Row) → list_any (is_row s p) rows ≡ false
    → list_all (λ y. row_before y (record { session = s; part = p; state = st }) || row_before (record { session = s; part = p; state = st }) y) rows ≡ true
row-either s p st [] none = refl
row-either s p st (r ∷ rows) none =
    let here : (row_before r (record { session = s; part = p; state = st }) || row_before (record { session = s; part = p; state = st }) r) ≡ true
    = grind (arith, nat_tests, none) in
    grind (arith, here, none, row-either s p st rows)

flag-either : (s : SessionId) (p : PartId) (flags : List (SessionId × PartId)) → list_any (is_flag s p) flags ≡ false
    → list_all (λ f. flag_before f (s, p) || flag_before (s, p) f) flags ≡ true
flag-either s p [] none = refl
flag-either s p (f ∷ flags) none =
    let here : (flag_before f (s, p) || flag_before (s, p) f) ≡ true = grind (arith, nat_tests, none) in
    grind (arith, here, none, flag-either s p flags)

-- lists that are the same
ordered_beside : (c d : Cluster) → IsBeside c d → IsOrdered c → IsOrdered d
ordered_beside c d same o = record {
  rows = ap (rises row_before) same.rows ∙ o.rows;
  resets = ap (rises flag_before) same.resets ∙ o.resets;
  mail = ap (rises number_before) same.mail ∙ o.mail;
}

-- sessions that end, and a session that is heard of
ordered_without : (c : Cluster) (s : SessionId) → IsOrdered c → IsOrdered (without c s)
ordered_without c s o = record {
  rows = rises-filter row_before (λ r. not (r.session.0 == s.0)) c.rows o.rows;
  resets = rises-filter flag_before (λ f. not (f.0.0 == s.0)) c.resets o.resets;
  mail = rises-filter number_before (λ m. not (m.session.0 == s.0)) c.mail o.mail;
}

ordered_beat : (c : Cluster) (l : Option Live) → IsOrdered c → IsOrdered (beaten_of c l)
ordered_beat c None o = o
ordered_beat c (Some l) o = record { rows = o.rows; resets = o.resets; mail = o.mail }

-- a flag that is put
ordered_reset : (c : Cluster) (p : PartId) (l : Option Live) → IsOrdered c → reset_fault c p l ≡ None → IsOrdered (asked_of c p l)
ordered_reset c p None o free = o
ordered_reset c p (Some l) o free = record {
  rows = o.rows;
  resets = rises-insert flag_before flag-between (l.session, p) c.resets o.resets
      (flag-either l.session p c.resets (one (nat_le (parts_of c.resources p.resource) p.index) (is_error (state_of c.rows l.session p)) (list_any (is_flag l.session p) c.resets) refl free));
  mail = o.mail;
}
  where
    one : (a b d : Bool) → list_any (is_flag l.session p) c.resets ≡ d
        → (if a then Some (faults.NoPart (parts_of c.resources p.resource)) else if not b then Some (faults.NotError (state_of c.rows l.session p)) else if d then Some faults.AlreadyAsked else None) ≡ None
        → list_any (is_flag l.session p) c.resets ≡ false
    one true b d is e = cc
    one false false d is e = cc
    one false true true is e = cc
    one false true false is e = is

ordered_step : (c : Cluster) (step : Admin) → IsOrdered c → refusal_of c step ≡ None → IsOrdered (after c step)
ordered_step c (steps.Join i) o free = record { rows = o.rows; resets = o.resets; mail = o.mail }
ordered_step c (steps.End i) o free = along_end IsOrdered ordered_without c (live_of c.live i) o
ordered_step c (steps.Beat i) o free = ordered_beat c (live_of c.live i) o
ordered_step c (steps.Tick n) o free =
    along_without_all IsOrdered ordered_without (record c { clock = c.clock + n }) (ended_by c n) (record { rows = o.rows; resets = o.resets; mail = o.mail })
ordered_step c (steps.Reset i p) o free = ordered_reset c p (live_of c.live i) o free
ordered_step c step o free = ordered_beside c (after c step) (beside_step c step refl) o

-- a message that is sent has a higher number than those that are pending
ordered_sent : (c : Cluster) (q : Proposal) (id : MsgId) → IsKept c → id ≡ record { 0 = c.next_msg } → IsOrdered c → IsOrdered (after_placed c q (placings.Sent id))
ordered_sent c q id k next o = record {
  rows = o.rows;
  resets = o.resets;
  mail = rises-push number_before c.mail (message_from c id q) o.mail (all-le (is_pending c) (λ m. nat_lt m.id.0 id.0) below c.mail k.mail.pending);
}
  where
    below : (m : Message) → is_pending c m ≡ true → nat_lt m.id.0 id.0 ≡ true
    below m e =
        let low : nat_lt m.id.0 c.next_msg ≡ true = grind (arith, e) in
        ap (λ (n : MsgId). nat_lt m.id.0 n.0) next ∙ low

ordered_proposal : (c : Cluster) (q : Proposal) → IsKept c → IsOrdered c → IsOrdered (after_proposal c q)
ordered_proposal c q k o = one (placed_of c q) refl
  where
    one : (a : Placed) → placed_of c q ≡ a → IsOrdered (after_placed c q a)
    one (placings.Sent id) is = ordered_sent c q id k (sent_next c q 0 c.rules id (room_from c q id is).throttles) o
    one _ is = o

ordered_dispatch : (c : Cluster) (n : ControllerId) (qs : List Proposal) → IsKept c → list_all (is_proposable c) qs ≡ true → IsOrdered c → IsOrdered (after_dispatch c n qs)
ordered_dispatch c n qs k e o =
    along_dispatch IsOrdered (λ c q k w o. ordered_proposal c q k o) c n qs k e (ordered_beside c (next_pass c n) (beside_pass c n) o)

-- marks
rises-marked : (s : SessionId) (id : MsgId) (f : Message → Message) → ((m : Message) → (f m).id.0 ≡ m.id.0) → (mail : List Message)
    → rises number_before (map (λ m. if has_id s id m then f m else m) mail) ≡ rises number_before mail
rises-marked s id f same mail = rises-map number_before _ (λ x y. ap (λ (n : ℕ). nat_lt n (marked y).id.0) (number x) ∙ ap (λ (n : ℕ). nat_lt x.id.0 n) (number y)) mail
  where
    marked : Message → Message
    marked m = if has_id s id m then f m else m

    number : (m : Message) → (if has_id s id m then f m else m).id.0 ≡ m.id.0
    number m = cond_both (has_id s id m) (f m) m (λ (x : Message). x.id.0 ≡ m.id.0) (λ e. same m) (λ e. refl)

-- a row that is put stands in its place
restated-before : (s : SessionId) (p : PartId) (st : StateId) (a b : Row) → row_before (restated s p st a) (restated s p st b) ≡ row_before a b
restated-before s p st a b = one (is_row s p a) (is_row s p b)
  where
    one : (x y : Bool) → row_before (if x then record a { state = st } else a) (if y then record b { state = st } else b) ≡ row_before a b
    one true true = refl
    one true false = refl
    one false true = refl
    one false false = refl

rises-put : (rows : List Row) (s : SessionId) (p : PartId) (st : StateId) → rises row_before rows ≡ true → rises row_before (row_put rows s p st) ≡ true
rises-put rows s p st o = one (st.0 == dropped.0) (list_any (is_row s p) rows) refl
  where
    one : (gone there : Bool) → list_any (is_row s p) rows ≡ there
        → rises row_before (if gone then filter (λ r. not (is_row s p r)) rows else if there then map (restated s p st) rows else insert_by row_before (record { session = s; part = p; state = st }) rows) ≡ true
    one true there is = rises-filter row_before (λ r. not (is_row s p r)) rows o
    one false true is = rises-map row_before (restated s p st) (restated-before s p st) rows ∙ o
    one false false is = rises-insert row_before row-between (record { session = s; part = p; state = st }) rows o (row-either s p st rows is)

rises-flags : (flags : List (SessionId × PartId)) (m : Message) (outcome : Outcome) → rises flag_before flags ≡ true → rises flag_before (flags_after flags m outcome) ≡ true
rises-flags flags m outcomes.Ok o = rises-filter flag_before (λ f. not (is_flag m.session m.part f)) flags o
rises-flags flags m outcomes.Failed o = o

ordered_write : (c : Cluster) (s : SessionId) (id : MsgId) (outcome : Outcome) → IsOrdered c → IsOrdered (after_write c s id outcome)
ordered_write c s id outcome o = one (pending_of c s id)
  where
    one : (m : Option Message) → IsOrdered (written_of c s id outcome m)
    one None = o
    one (Some m) = record {
      rows = rises-put c.rows m.session m.part (state_after m outcome) o.rows;
      resets = rises-flags c.resets m outcome o.resets;
      mail = rises-marked s id (λ x. record x { written = true }) (λ x. refl) c.mail ∙ o.mail;
    }

-- each event keeps the orders
pub ordered_next : (c : Cluster) (e : Event) → IsKept c → IsOrdered c → IsStep c e → IsOrdered (next c e)
ordered_next c (events.Admin step did) k o legal = ordered_step c step o legal.1
ordered_next c (events.Begin j begun) k o legal = ordered_beside c (next_pass c j) (beside_pass c j) o
ordered_next c (events.Dispatch j epoch pass proposals answer) k o legal = ordered_dispatch c j proposals k legal.0 o
ordered_next c (events.Take s id) k o legal = record { rows = o.rows; resets = o.resets; mail = rises-marked s id (λ m. record m { taken = true }) (λ m. refl) c.mail ∙ o.mail }
ordered_next c (events.Write s id outcome) k o legal = ordered_write c s id outcome o
ordered_next c (events.Ack s id) k o legal = record { rows = o.rows; resets = o.resets; mail = rises-filter number_before (λ m. not (has_id s id m)) c.mail o.mail }
ordered_next c _ k o legal = record { rows = o.rows; resets = o.resets; mail = o.mail }
