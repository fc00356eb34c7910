-- A job that comes back: its handler, and that the slots stay laid out.
use Rattle.std.proofs.Common.{◌≡◌, ℕ, ◌+◌, ◌<◌, ◌≤◌, List, map, length, get_or, set, arith, refl, Bool, true, false, Option, None, Some, is_some, ◌==◌, if◌then◌else◌}
use Rattle.std.specs.List.{position, sum_by}
use Rattle.std.specs.Option.{option_map, ForSome}
use Rattle.hx_model.specs.Model.{dropped}
use Rattle.hx_ids.specs.declared.PartId.{PartId}
use Rattle.hx_ids.specs.declared.StateId.{StateId}
use Rattle.hx_cluster.specs.declared.state.Message.{Message}
use Rattle.hx_cluster.specs.declared.description.Failure.{Failure}
use Rattle.hx_handler.specs.declared.Handler as handler
use Rattle.hx_replicas.specs.declared.slots.Work.TheVariants.{Idle, Out}
use Rattle.hx_replicas.specs.declared.slots.Slot.{Slot}
use Rattle.hx_replicas.specs.Participants.{slot_in, put_slot, brought}
use Rattle.hx_replicas.specs.Ledger.{lent, in_place}
use Rattle.hx_replicas.specs.Jobs.{Held, StandsAt, runs_of, seen, seen_in}
use Rattle.hx_replicas.specs.Layout.{count_of, plain_slot, IsSlot, Stands, OfSlot, IsLaidOut, AreDistinct, has_part, restored}
use Rattle.hx_replicas.proofs.Parts.{state_same, state_other}
use Rattle.hx_replicas.proofs.Searching.{found-in}
use Rattle.hx_replicas.proofs.Placing.{slot-found, slot-none, put-at}
use Rattle.hx_replicas.proofs.Ledgers.{sum_by-ge}
use Rattle.hx_replicas.proofs.Laying.{IsLaidOut-set}

module _ {H : Type 0} (k : handler.Ghosts H) where
  -- a part whose message is out has a slot
  pub out-found : (xs : List (Slot H)) (p : PartId) (m : Message) (b : Bool) → (slot_in (map (plain_slot k) xs) p).work ≡ Out m b → position (has_part p) xs ≡ None → ⊥
  out-found xs p m b out none = let e : Idle ≡ Out m b = rw (slot-none k xs p none) at out in (cc)

  lent-some : (h : Option H) (m : Message) → lent (Out m (is_some (seen_in k h))) ≡ in_place h
  lent-some None m = refl
  lent-some (Some h) m = refl

  room-out : {told : Option (List Failure)} {made retired : ℕ} (xs : List (Slot H)) (i : ℕ) (x : Slot H) (m : Message) (h : Option H) → i < length xs → x ≡ get_or xs i x → x.work ≡ Out m (is_some (seen_in k h)) → IsLaidOut k told xs made retired → retired + in_place h ≤ made
  room-out xs i x m h lt at_i work was =
      let most : count_of (get_or xs i x) ≤ sum_by count_of xs = sum_by-ge count_of xs i x lt in
      let here : count_of x ≤ sum_by count_of xs = rw (← at_i) at most in
      let lends : lent x.work ≡ in_place h = rw work (lent-some h m) in
      omega (arith, here, lends, was.balanced)

keep-count : {H : Type 0} (b : Bool) (h : Option H) → (if b then in_place h else 0) + in_place (if b then None else h) ≡ in_place h
keep-count true None = refl
keep-count true (Some h) = refl
keep-count false None = refl
keep-count false (Some h) = refl

out-bare : {H : Type 0} {k : handler.Ghosts H} {told : Option (List Failure)} (x : Slot H) (m : Message) (b : Bool) → IsSlot k told x → x.work ≡ Out m b → x.handler ≡ None
out-bare x m b fits is = fits.out (rw is refl)

-- the slot whose job comes back, with its handler
pub record IsComing {H : Type 0} (k : handler.Ghosts H) (told : Option (List Failure)) (xs : List (Slot H)) (m : Message) (i : ℕ) (x : Slot H) (h : Option H) : Type 0 where
  pub lt : i < length xs
  pub at_i : x ≡ get_or xs i x
  pub work : x.work ≡ Out m (is_some (seen_in k h))
  pub fit : IsSlot k told x
  pub bare : x.handler ≡ None

pub coming : {H : Type 0} {k : handler.Ghosts H} {told : Option (List Failure)} {xs : List (Slot H)} {made retired : ℕ} → IsLaidOut k told xs made retired → (m : Message) (i : ℕ) (x : Slot H) (h : Option H) (d : Option Held) → position (has_part m.part) xs ≡ Some i → x ≡ get_or xs i x → seen_in k h ≡ d → (slot_in (map (plain_slot k) xs) m.part).work ≡ Out m (is_some d) → IsComing k told xs m i x h
coming {k = k} {told = told} {xs = xs} laid m i x h d e at_i seen out =
    let lt : i < length xs = found-in (has_part m.part) xs i x e in
    let fit : IsSlot k told x = (let f : IsSlot k told (get_or xs i x) = laid.fits i x lt in rw (← at_i) at f) in
    let work : x.work ≡ Out m (is_some (seen_in k h)) = rw seen (rw (slot-found k xs m.part i x e at_i) at out) in
    record { lt = lt; at_i = at_i; work = work; fit = fit; bare = out-bare x m (is_some (seen_in k h)) fit work }

pub room-coming : {H : Type 0} {k : handler.Ghosts H} {told : Option (List Failure)} {xs : List (Slot H)} {made retired : ℕ} {m : Message} {i : ℕ} {x : Slot H} {h : Option H} → IsComing k told xs m i x h → IsLaidOut k told xs made retired → retired + in_place h ≤ made
room-coming {k = k} {xs = xs} {m = m} {i = i} {x = x} {h = h} c was = room-out k xs i x m h c.lt c.at_i c.work was

module _ {H : Type 0} (k : handler.Ghosts H) (told : Option (List Failure)) where
  Stands-restored : (h : Option H) (p : PartId) (s t : StateId) (i : Option StateId) (m : Message) (b : Bool) → (t.0 == dropped.0) ≡ b → StandsAt m t (seen_in k h) → ForSome (seen_in k h) (λ y. y.listed ≡ told) → OfSlot m p s i → Stands k told p t i 0 (if b then None else h)
  Stands-restored None p s t i m true is fits listed of = λ z n0 n1. absurd (n1 (state_same t dropped is))
  Stands-restored (Some h) p s t i m true is fits listed of = λ z n0 n1. absurd (n1 (state_same t dropped is))
  Stands-restored None p s t i m false is fits listed of = λ z n0 n1. let e : Some t ≡ Some m.initial = fits n0 n1 in rw e of.of_initial
  Stands-restored (Some h) p s t i m false is fits listed of = (
    record {
      of_part = rw fits.0 of.of_part;
      of_initial = rw fits.1 of.of_initial;
      is_at = fits.2;
      of_list = listed (seen k h) refl;
      not_dropped = state_other t dropped is;
    },
    refl,
  )

  pub IsLaidOut-restored : {made retired retired' : ℕ} {xs : List (Slot H)} {m : Message} {i : ℕ} {x : Slot H} {h : Option H} → IsComing k told xs m i x h → (t : StateId) (kept : Option H) → StandsAt m t (seen_in k h) → ForSome (seen_in k h) (λ y. y.listed ≡ told) → kept ≡ (if t.0 == dropped.0 then None else h) → retired' ≡ retired + (if t.0 == dropped.0 then in_place h else 0) → IsLaidOut k told xs made retired → IsLaidOut k told (set xs i (restored x t kept)) made retired'
  IsLaidOut-restored {xs = xs} {m = m} {i = i} {x = x} {h = h} c t kept fits listed kept_is counts was =
      let is = c.work in
      let fit = c.fit in
      let lt = c.lt in
      let at_i = c.at_i in
      let of : OfSlot m x.part x.state x.initial = rw is at fit.work in
      let none : in_place x.handler ≡ 0 = rw c.bare refl in
      let lent_is : lent x.work ≡ in_place h = rw is (lent-some k h m) in
      let counted : in_place kept ≡ in_place (if t.0 == dropped.0 then None else h) = rw kept_is refl in
      let stands : Stands k told x.part t x.initial 0 kept = rw kept_is (Stands-restored h x.part x.state t x.initial m (t.0 == dropped.0) refl fits listed of) in
      IsLaidOut-set xs i (restored x t kept) x lt (rw (← at_i) refl)
      (record { handler = stands; work = tt; out = λ e. (cc) })
      (rw (← at_i) (omega (arith, none, lent_is, counted, keep-count (t.0 == dropped.0) h, counts))) was

module _ {H : Type 0} (k : handler.Ghosts H) where
  kept-runs : (b : Bool) (h : Option H) → option_map (λ y. k.runs y) (if b then None else h) ≡ (if b then None else runs_of (seen_in k h))
  kept-runs true None = refl
  kept-runs true (Some h) = refl
  kept-runs false None = refl
  kept-runs false (Some h) = refl

  pub finish-slots : (xs : List (Slot H)) (p : PartId) (i : ℕ) (t : StateId) (x : Slot H) (kept h : Option H) → AreDistinct (map (λ x. x.part) xs) → position (has_part p) xs ≡ Some i → x ≡ get_or xs i x → kept ≡ (if t.0 == dropped.0 then None else h) → map (plain_slot k) (set xs i (restored x t kept)) ≡ put_slot (map (plain_slot k) xs) (brought (slot_in (map (plain_slot k) xs) p) t (runs_of (seen_in k h)))
  finish-slots xs p i t x kept h distinct e at_i kept_is =
      let put : put_slot (map (plain_slot k) xs) (plain_slot k (restored x t kept)) ≡ map (plain_slot k) (set xs i (restored x t kept)) = put-at k xs i x (restored x t kept) distinct (found-in (has_part p) xs i x e) at_i refl in
      rw (← put, slot-found k xs p i x e at_i, kept_is, kept-runs (t.0 == dropped.0) h) refl
