-- Slots of participants, as one of them is put.
use Rattle.std.proofs.Common.{◌≡◌, ◌≤◌, Bool, true, false, List, [], ◌∷◌, map, find, Option, Some, None, refl, sym, ap, ◌∙◌, subst, arith}
use Rattle.std.specs.Prelude.{unwrap_or, if◌then◌else◌}
use Rattle.std.specs.List.{list_any, list_all}
use Rattle.hx_ids.specs.declared.PartId.{PartId}
use Rattle.hx_ids.specs.declared.SessionId.{SessionId}
use Rattle.hx_cluster.specs.Ends.{part_eq}
use Rattle.hx_replicas.specs.Participants.{Slot, new_slot, slot_in, put_slot, emptied, is_session}
use Rattle.hx_replicas.specs.Layout.{AreDistinct}
use Rattle.hx_replicas.proofs.Parts.{part_same, part_eq-self, part_eq-same}
use Rattle.hx_replicas.proofs.Putting.{put-step, find-step}
use Rattle.hx_lists.specs.Lists.{count}
use Rattle.hx_safe.proofs.Counting.{count-none, find-single}
use Rattle.hx_safe.proofs.Ends.{same-self, session_same}
use Rattle.hx_safe.proofs.Counting.{all_found}

abbrev pub parts_in : List Slot → List PartId
parts_in xs = map (λ x. x.part) xs

-- two parts that are compared
pub part_sym : (a b : PartId) → part_eq a b ≡ part_eq b a
part_sym a b = one (part_eq a b) refl (part_eq b a) refl
  where
    one : (x : Bool) → part_eq a b ≡ x → (y : Bool) → part_eq b a ≡ y → part_eq a b ≡ part_eq b a
    one true e y f = e ∙ sym (part_eq-same b a (sym (part_same a b e)))
    one false e true f = part_eq-same a b (sym (part_same b a f)) ∙ sym f
    one false e false f = e ∙ sym f

pub slot_in-other : (xs : List Slot) (y : Slot) (p : PartId) → part_eq y.part p ≡ false → slot_in (put_slot xs y) p ≡ slot_in xs p
slot_in-other [] y p other = find-step y [] p false other
slot_in-other (x ∷ xs) y p other = one (part_eq x.part y.part) refl (part_eq x.part p) refl (slot_in-other xs y p other)
  where
    one : (a : Bool) → part_eq x.part y.part ≡ a → (b : Bool) → part_eq x.part p ≡ b → slot_in (put_slot xs y) p ≡ slot_in xs p → slot_in (put_slot (x ∷ xs) y) p ≡ slot_in (x ∷ xs) p
    one true e b f more =
        let same : x.part ≡ y.part = part_same x.part y.part e in
        let here : part_eq x.part p ≡ false = ap (λ (q : PartId). part_eq q p) same ∙ other in
        rw (put-step x xs y true e) (find-step y xs p false other ∙ sym (find-step x xs p false here))
    one false e b f more = rw (put-step x xs y false e) (find-step x (put_slot xs y) p b f ∙ ap (λ (z : Slot). if b then x else z) more ∙ sym (find-step x xs p b f))

-- parts stay distinct
none-other : (q p : PartId) (xs : List Slot) (y : Slot) → y.part ≡ q → part_eq p q ≡ false → list_any (part_eq p) (parts_in xs) ≡ false → list_any (part_eq p) (parts_in (put_slot xs y)) ≡ false
none-other q p [] y same other none = let e : part_eq p y.part ≡ false = ap (part_eq p) same ∙ other in grind (arith, e)
none-other q p (x ∷ xs) y same other none = one (part_eq x.part y.part) refl (ap (part_eq p) same ∙ other) (none-other q p xs y same other)
  where
    one : (b : Bool) → part_eq x.part y.part ≡ b → part_eq p y.part ≡ false → (list_any (part_eq p) (parts_in xs) ≡ false → list_any (part_eq p) (parts_in (put_slot xs y)) ≡ false)
        → list_any (part_eq p) (parts_in (put_slot (x ∷ xs) y)) ≡ false
    one true is e more = rw (put-step x xs y true is) (grind (arith, e, none))
    one false is e more = rw (put-step x xs y false is) (grind (arith, none, more))

pub distinct-put : (xs : List Slot) (y : Slot) → AreDistinct (parts_in xs) → AreDistinct (parts_in (put_slot xs y))
distinct-put [] y d = (refl, tt)
distinct-put (x ∷ xs) y d = one (part_eq x.part y.part) refl (distinct-put xs y d.1)
  where
    one : (b : Bool) → part_eq x.part y.part ≡ b → AreDistinct (parts_in (put_slot xs y)) → AreDistinct (parts_in (put_slot (x ∷ xs) y))
    one true is more =
        let same : x.part ≡ y.part = part_same x.part y.part is in
        subst (λ (zs : List Slot). AreDistinct (parts_in zs)) (sym (put-step x xs y true is)) (subst (λ (p : PartId). list_any (part_eq p) (parts_in xs) ≡ false) same d.0, d.1)
    one false is more =
        subst (λ (zs : List Slot). AreDistinct (parts_in zs)) (sym (put-step x xs y false is)) (none-other y.part x.part xs y refl is d.0, more)

pub distinct-emptied : (xs : List Slot) → AreDistinct (parts_in xs) → AreDistinct (parts_in (map emptied xs))
distinct-emptied xs d = subst AreDistinct (same xs) d
  where
    same : (ys : List Slot) → parts_in ys ≡ parts_in (map emptied ys)
    same [] = refl
    same (y ∷ ys) = ap (λ (ps : List PartId). y.part ∷ ps) (same ys)

pub slot-emptied : (xs : List Slot) (q : PartId) → slot_in (map emptied xs) q ≡ new_slot q
slot-emptied [] q = refl
slot-emptied (x ∷ xs) q = one (part_eq x.part q) refl (slot-emptied xs q)
  where
    one : (b : Bool) → part_eq x.part q ≡ b → slot_in (map emptied xs) q ≡ new_slot q → slot_in (map emptied (x ∷ xs)) q ≡ new_slot q
    one true is more = find-step (emptied x) (map emptied xs) q true is ∙ ap new_slot (part_same x.part q is)
    one false is more = find-step (emptied x) (map emptied xs) q false is ∙ more

-- a part has one slot
none-there : (q : PartId) (xs : List Slot) → list_any (part_eq q) (parts_in xs) ≡ false → list_any (λ y. part_eq y.part q) xs ≡ false
none-there q [] e = refl
none-there q (x ∷ xs) e = let s = part_sym q x.part in grind (arith, e, s, none-there q xs)

pub single-part : (xs : List Slot) (q : PartId) → AreDistinct (parts_in xs) → count (λ y. part_eq y.part q) xs ≤ 1
single-part [] q d = omega arith
single-part (x ∷ xs) q d = one (part_eq x.part q) refl (single-part xs q d.1)
  where
    one : (b : Bool) → part_eq x.part q ≡ b → count (λ y. part_eq y.part q) xs ≤ 1 → count (λ y. part_eq y.part q) (x ∷ xs) ≤ 1
    one true is few =
        let none : list_any (part_eq q) (parts_in xs) ≡ false = subst (λ (p : PartId). list_any (part_eq p) (parts_in xs) ≡ false) (part_same x.part q is) d.0 in
        let zero = count-none (λ (y : Slot). part_eq y.part q) xs (none-there q xs none) in
        grind (arith, is, zero)
    one false is few = grind (arith, is, few)

pub slot-found : (xs : List Slot) (p : Slot → Bool) (x : Slot) → AreDistinct (parts_in xs) → find p xs ≡ Some x → slot_in xs x.part ≡ x
slot-found xs p x d is =
    ap (λ (o : Option Slot). unwrap_or o (new_slot x.part))
    (find-single p (λ y. part_eq y.part x.part) xs x is (part_eq-self x.part) (single-part xs x.part d))

-- a test of each slot, where the slot of each part passes it
pub all_slots : (p : Slot → Bool) (xs : List Slot) → AreDistinct (parts_in xs) → ((q : PartId) → p (slot_in xs q) ≡ true) → list_all p xs ≡ true
all_slots p xs d h =
    all_found (λ (x y : Slot). part_eq y.part x.part) p xs (λ x. part_eq-self x.part) (λ x. single-part xs x.part d)
    (λ x is. subst (λ (y : Slot). p y ≡ true) (slot-found xs (λ y. part_eq y.part x.part) x d is) (h x.part))

-- a participant's session
pub is_mine : (o : Option SessionId) (s : SessionId) → o ≡ Some s → is_session o s ≡ true
is_mine o s e = subst (λ (x : Option SessionId). is_session x s ≡ true) (sym e) (same-self s.0)

pub mine_is : (o : Option SessionId) (s : SessionId) → is_session o s ≡ true → o ≡ Some s
mine_is None s e = cc
mine_is (Some t) s e = ap (λ (x : SessionId). Some x) (session_same t s e)
