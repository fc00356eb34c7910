-- Two lists in order of part that have the same items of each part are one.
use Rattle.std.proofs.Common.{◌≡◌, ◌&&◌, not, Bool, List, refl, sym, ◌∙◌, arith}
use Rattle.std.specs.List.Sorted.{ties}
use Rattle.std.proofs.lemmas.Bool.Decides.{nat_tests}
use Rattle.std.proofs.lemmas.List.Elements.{filter_agree}
use Rattle.hx_ids.specs.declared.PartId.{PartId}
use Rattle.hx_cluster.specs.Ends.{part_eq, part_before}
use Rattle.hx_parts.specs.Parts.{HasSameAt, IsByPart}
use Rattle.hx_parts.proofs.Ordered.{parts_rank}
use Rattle.hx_parts.proofs.Sorting.{sort_is}

tie_is_part : (a b : PartId) → (not (part_before a b) && not (part_before b a)) ≡ part_eq b a
tie_is_part a b = grind (arith, nat_tests)

pub one_by_part : {X : Type 0} (part_of : X → PartId) (xs ys : List X) → IsByPart part_of xs → IsByPart part_of ys → HasSameAt part_of xs ys → ys ≡ xs
one_by_part {X} part_of xs ys up also same =
    let before : X → X → Bool = λ x y. part_before (part_of x) (part_of y) in
    let tie : (z y : X) → ties before z y ≡ part_eq (part_of y) (part_of z) = λ z y. tie_is_part (part_of z) (part_of y) in
    let at : X → X → Bool = λ z y. part_eq (part_of y) (part_of z) in
    sort_is before (parts_rank part_of) xs ys also (λ z. filter_agree (ties before z) (at z) (tie z) ys ∙ same (part_of z) ∙ sym (filter_agree (ties before z) (at z) (tie z) xs))
    ∙ sym (sort_is before (parts_rank part_of) xs xs up (λ z. refl))
