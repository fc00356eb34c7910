-- Items of a part among those of marked parts.
use Rattle.std.proofs.Common.{◌≡◌, ℕ, ◌∙◌, Bool, true, false, List, [], ap, arith}
use Rattle.std.specs.Prelude.{filter}
use Rattle.std.proofs.lemmas.Bool.Decides.{nat_tests}
use Rattle.hx_ids.specs.declared.PartId.{PartId}
use Rattle.hx_cluster.specs.Ends.{part_eq}
use Rattle.hx_parts.specs.Parts.{items_at}
use Rattle.hx_pass.proofs.Filtered.{filter-wider, filter-other}

-- parts with the same numbers are one
pub part_is : (p q : PartId) → part_eq p q ≡ true → p ≡ q
part_is p q e =
    let resource : p.resource.0 ≡ q.resource.0 = grind (arith, nat_tests, e) in
    let index : p.index ≡ q.index = grind (arith, nat_tests, e) in
    ap (λ (n : ℕ). let x : PartId = record { resource = record { 0 = n }; index = p.index } in x) resource
    ∙ ap (λ (n : ℕ). let x : PartId = record { resource = q.resource; index = n } in x) index

-- a test of parts that one part passes leaves the items of that part
pub marked_kept : {X : Type 0} (part_of : X → PartId) (marked : PartId → Bool) (p : PartId) → marked p ≡ true → (xs : List X) → items_at part_of p (filter (λ x. marked (part_of x)) xs) ≡ items_at part_of p xs
marked_kept part_of marked p m xs = filter-wider _ (λ x. marked (part_of x)) (λ x e. ap marked (part_is (part_of x) p e) ∙ m) xs

-- and nothing of a part that fails it
pub others_out : {X : Type 0} (part_of : X → PartId) (marked : PartId → Bool) (p : PartId) → marked p ≡ false → (xs : List X) → items_at part_of p (filter (λ x. marked (part_of x)) xs) ≡ []
others_out part_of marked p m xs = filter-other _ (λ x. marked (part_of x)) (λ x e. ap marked (part_is (part_of x) p e) ∙ m) xs
