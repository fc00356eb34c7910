-- The slot of a part, found and put in the list of slots.
use Rattle.std.proofs.Common.{◌≡◌, ℕ, ◌<◌, ◌++◌, ◌∷◌, [], List, zero, suc, map, length, get_or, set, arith, refl, ap, Bool, true, false, None, Some}
use Rattle.std.specs.List.{list_any, list_all, find, position}
use Rattle.std.specs.Prelude.{nat_lt}
use Rattle.hx_lists.specs.Lists.{count}
use Rattle.std.proofs.lemmas.Grind.{common_steps}
use Rattle.hx_ids.specs.declared.PartId.{PartId}
use Rattle.hx_ids.specs.declared.MsgId.{MsgId}
use Rattle.hx_cluster.specs.Ends.{part_eq}
use Rattle.hx_handler.specs.declared.Handler as handler
use Rattle.hx_replicas.specs.declared.slots.Slot.{Slot}
use Rattle.hx_replicas.specs.Participants.{slot_in, put_slot, new_slot, accepted_in, accepted_of, has_accepted, is_idle}
use Rattle.hx_replicas.specs.Layout.{plain_slot, has_part, has_number, AreDistinct}
use Rattle.hx_replicas.proofs.Parts.{part_same, part_eq-self}
use Rattle.hx_replicas.proofs.Altering.{position-cons}
use Rattle.hx_replicas.proofs.Searching.{find-map, found-passes, found-first, found-none}

-- a part is not among those behind it
among : {H : Type 0} (p : PartId) (xs : List (Slot H)) (i : ℕ) (d : Slot H) → list_any (part_eq p) (map (λ x. x.part) xs) ≡ false → i < length xs → part_eq p (get_or xs i d).part ≡ false
among p [] i d none lt = absurd (omega arith)
among p (x ∷ xs) zero d none lt = grind (arith, common_steps)
among p (x ∷ xs) (suc i) d none lt = among p xs i d (grind (arith, common_steps)) (omega arith)

place-own : {H : Type 0} (xs : List (Slot H)) (i : ℕ) (d : Slot H) → AreDistinct (map (λ x. x.part) xs) → i < length xs → position (has_part (get_or xs i d).part) xs ≡ Some i
place-own [] i d distinct lt = absurd (omega arith)
place-own (x ∷ xs) zero d distinct lt = rw (position-cons (has_part x.part) x xs, part_eq-self x.part) refl
place-own (x ∷ xs) (suc i) d distinct lt =
    let below : i < length xs = omega arith in
    rw (position-cons (has_part (get_or xs i d).part) x xs, among x.part xs i d distinct.0 below, place-own xs i d distinct.1 below) refl

-- a place is that of its part
pub place-at : {H : Type 0} (xs : List (Slot H)) (i : ℕ) (p : PartId) (x : Slot H) → AreDistinct (map (λ y. y.part) xs) → i < length xs → x ≡ get_or xs i x → p ≡ x.part → position (has_part p) xs ≡ Some i
place-at xs i p x distinct lt at_i same = rw same (let e : position (has_part (get_or xs i x).part) xs ≡ Some i = place-own xs i x distinct lt in rw (← at_i) at e)

module _ {H : Type 0} (k : handler.Ghosts H) where
  slot_of-place : (xs : List (Slot H)) (i : ℕ) (d : Slot H) → AreDistinct (map (λ x. x.part) xs) → i < length xs → slot_in (map (plain_slot k) xs) (get_or xs i d).part ≡ plain_slot k (get_or xs i d)
  slot_of-place [] i d distinct lt = absurd (omega arith)
  slot_of-place (x ∷ xs) zero d distinct lt = rw (part_eq-self x.part) refl
  slot_of-place (x ∷ xs) (suc i) d distinct lt =
      let below : i < length xs = omega arith in
      rw (among x.part xs i d distinct.0 below) (slot_of-place xs i d distinct.1 below)

  put-place : (xs : List (Slot H)) (i : ℕ) (y d : Slot H) → AreDistinct (map (λ x. x.part) xs) → i < length xs → y.part ≡ (get_or xs i d).part → put_slot (map (plain_slot k) xs) (plain_slot k y) ≡ map (plain_slot k) (set xs i y)
  put-place [] i y d distinct lt same = absurd (omega arith)
  put-place (x ∷ xs) zero y d distinct lt same = rw (same, part_eq-self x.part) refl
  put-place (x ∷ xs) (suc i) y d distinct lt same =
      let below : i < length xs = omega arith in
      let other : part_eq x.part y.part ≡ false = rw same (among x.part xs i d distinct.0 below) in
      rw (other, put-place xs i y d distinct.1 below same) refl

  -- the slot at a place is that of its part
  pub slot-at : (xs : List (Slot H)) (i : ℕ) (p : PartId) (x : Slot H) → AreDistinct (map (λ x. x.part) xs) → i < length xs → x ≡ get_or xs i x → p ≡ x.part → slot_in (map (plain_slot k) xs) p ≡ plain_slot k x
  slot-at xs i p x distinct lt at_i same = rw same (let e : slot_in (map (plain_slot k) xs) (get_or xs i x).part ≡ plain_slot k (get_or xs i x) = slot_of-place xs i x distinct lt in rw (← at_i) at e)

  pub put-at : (xs : List (Slot H)) (i : ℕ) (x y : Slot H) → AreDistinct (map (λ x. x.part) xs) → i < length xs → x ≡ get_or xs i x → y.part ≡ x.part → put_slot (map (plain_slot k) xs) (plain_slot k y) ≡ map (plain_slot k) (set xs i y)
  put-at xs i x y distinct lt at_i same = put-place xs i y x distinct lt (rw (← at_i) same)

  -- the place of a part's slot
  pub place-plain : (xs : List (Slot H)) (p : PartId) → position (has_part p) xs ≡ position (λ x. part_eq x.part p) (map (plain_slot k) xs)
  place-plain [] p = refl
  place-plain (x ∷ xs) p =
      rw (position-cons (has_part p) x xs, position-cons (λ s. part_eq s.part p) (plain_slot k x) (map (plain_slot k) xs), place-plain xs p) refl

  -- where a search found a place
  pub slot-found : (xs : List (Slot H)) (p : PartId) (i : ℕ) (x : Slot H) → position (has_part p) xs ≡ Some i → x ≡ get_or xs i x → slot_in (map (plain_slot k) xs) p ≡ plain_slot k x
  slot-found xs p i x e at_i = rw (find-map (plain_slot k) (λ y. part_eq y.part p) xs, found-first (has_part p) xs i x e at_i) refl

  pub slot-none : (xs : List (Slot H)) (p : PartId) → position (has_part p) xs ≡ None → slot_in (map (plain_slot k) xs) p ≡ new_slot p
  slot-none xs p e = rw (find-map (plain_slot k) (λ y. part_eq y.part p) xs, found-none (has_part p) xs e) refl

  pub unused-none : (xs : List (Slot H)) (p : PartId) → position (has_part p) xs ≡ None → find (λ y. part_eq y.part p) (map (plain_slot k) xs) ≡ None
  unused-none xs p e = rw (find-map (plain_slot k) (λ y. part_eq y.part p) xs, found-none (has_part p) xs e) refl

  -- a part that no slot is of
  pub unused-slot : (xs : List (Slot H)) (p : PartId) → find (λ y. part_eq y.part p) (map (plain_slot k) xs) ≡ None → slot_in (map (plain_slot k) xs) p ≡ new_slot p
  unused-slot xs p e = rw e refl

  pub unused-put : (xs : List (Slot H)) (y : Slot H) (p : PartId) → y.part ≡ p → find (λ y. part_eq y.part p) (map (plain_slot k) xs) ≡ None → put_slot (map (plain_slot k) xs) (plain_slot k y) ≡ map (plain_slot k) (xs ++ y ∷ [])
  unused-put [] y p same e = refl
  unused-put (x ∷ xs) y p same e = grind (arith, common_steps, unused-put xs y p same)

  pub unused-any : (xs : List (Slot H)) (p : PartId) → find (λ y. part_eq y.part p) (map (plain_slot k) xs) ≡ None → list_any (has_part p) xs ≡ false
  unused-any [] p e = refl
  unused-any (x ∷ xs) p e = grind (arith, common_steps, unused-any xs p)

  -- the slot that accepted a message
  pub accepted-some : (xs : List (Slot H)) (id : MsgId) (i : ℕ) (x : Slot H) → position (has_number id) xs ≡ Some i → x ≡ get_or xs i x → accepted_in (find (λ y. has_accepted id y.work) (map (plain_slot k) xs)) ≡ accepted_of x.work
  accepted-some xs id i x e at_i = rw (find-map (plain_slot k) (λ y. has_accepted id y.work) xs, found-first (has_number id) xs i x e at_i) refl

  pub accepted-none : (xs : List (Slot H)) (id : MsgId) → position (has_number id) xs ≡ None → accepted_in (find (λ y. has_accepted id y.work) (map (plain_slot k) xs)) ≡ None
  accepted-none xs id e = rw (find-map (plain_slot k) (λ y. has_accepted id y.work) xs, found-none (has_number id) xs e) refl

pub part-found : {H : Type 0} (xs : List (Slot H)) (p : PartId) (i : ℕ) (x : Slot H) → position (has_part p) xs ≡ Some i → x ≡ get_or xs i x → x.part ≡ p
part-found xs p i x e at_i = part_same x.part p (found-passes (has_part p) xs i x e at_i)

-- tests of all slots
pub all-plain : {H : Type 0} (k : handler.Ghosts H) (xs : List (Slot H)) → list_all (λ x. is_idle x.work) xs ≡ list_all (λ x. is_idle x.work) (map (plain_slot k) xs)
all-plain k [] = refl
all-plain k (x ∷ xs) = rw (all-plain k xs) refl

pub count-plain : {H : Type 0} (k : handler.Ghosts H) (xs : List (Slot H)) → count (λ x. nat_lt 0 x.last.0) xs ≡ count (λ x. nat_lt 0 x.last.0) (map (plain_slot k) xs)
count-plain k [] = refl
count-plain k (x ∷ xs) = one (nat_lt 0 x.last.0) refl (count-plain k xs)
  where
    one : (b : Bool) → nat_lt 0 x.last.0 ≡ b → count (λ x. nat_lt 0 x.last.0) xs ≡ count (λ x. nat_lt 0 x.last.0) (map (plain_slot k) xs) → count (λ x. nat_lt 0 x.last.0) (x ∷ xs) ≡ count (λ x. nat_lt 0 x.last.0) (map (plain_slot k) (x ∷ xs))
    one true e later = rw e (ap (λ (n : ℕ). suc n) later)
    one false e later = rw e later
