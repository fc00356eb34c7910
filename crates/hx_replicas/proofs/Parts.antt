-- Parts and states that compare as equal are.
use Rattle.std.proofs.Common.{◌≡◌, ◌≢◌, ℕ, arith, ap, refl, Bool, true, false, ◌==◌}
use Rattle.std.proofs.lemmas.Bool.Decides.{nat_tests}
use Rattle.hx_ids.specs.declared.PartId.{PartId}
use Rattle.hx_ids.specs.declared.StateId.{StateId}
use Rattle.hx_cluster.specs.Ends.{part_eq}

pub part_same : (a b : PartId) → part_eq a b ≡ true → a ≡ b
part_same a b e =
    let resource : a.resource.0 ≡ b.resource.0 = grind (arith, nat_tests, e) in
    let index : a.index ≡ b.index = grind (arith, nat_tests, e) in
    (λ i. record { resource = record { 0 = resource i }; index = index i })

pub part_eq-self : (p : PartId) → part_eq p p ≡ true
part_eq-self p = grind (arith, nat_tests)

pub part_eq-same : (a b : PartId) → a ≡ b → part_eq a b ≡ true
part_eq-same a b e = rw e (part_eq-self b)

pub state_same : (a b : StateId) → (a.0 == b.0) ≡ true → a ≡ b
state_same a b e = let same : a.0 ≡ b.0 = grind (arith, nat_tests, e) in ap (λ (n : ℕ). record { 0 = n }) same

pub state_other : (a b : StateId) → (a.0 == b.0) ≡ false → a ≢ b
state_other a b e same = let s : a.0 ≡ b.0 = ap (λ (x : StateId). x.0) same in grind (arith, nat_tests, e, s)

pub state_differs : (a b : StateId) → a ≢ b → (a.0 == b.0) ≡ false
state_differs a b other = one (a.0 == b.0) refl
  where
    one : (t : Bool) → (a.0 == b.0) ≡ t → t ≡ false
    one true e = absurd (other (state_same a b e))
    one false e = refl
