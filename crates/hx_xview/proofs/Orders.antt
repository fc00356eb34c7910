-- The order of parts, and rows in that order.
use Rattle.std.proofs.Common.{Ordering, Less, Equal, Greater, ◌≡◌, ℕ, Bool, true, false, cond, refl, sym, ap, ◌∙◌}
use Rattle.std.specs.Prelude.{◌==◌, ◌&&◌, ◌||◌, nat_lt}
use Rattle.std.specs.Ordering.{nat_cmp, is_eq, is_lt, ordering_then}
use Rattle.std.specs.Cmp.{IsTotalOrder, nat_cmp_total, tied_then, unsigned_tied}
use Rattle.std.proofs.lemmas.Cmp.{then_total}
use Rattle.hx_ids.specs.declared.PartId.{PartId}
use Rattle.hx_cluster.specs.Ends.{part_eq, part_before}
use Rattle.hx_xview.specs.Parts.{part_cmp}

-- an order by what a function reads
read_total : {K : Type 0} (f : K → ℕ) → IsTotalOrder (λ x y. nat_cmp (f x) (f y))
read_total f = record {
  antisymm = λ x y. nat_cmp_total.antisymm (f x) (f y);
  trans = λ x y z. nat_cmp_total.trans (f x) (f y) (f z);
  congr = λ x y z. nat_cmp_total.congr (f x) (f y) (f z);
}

pub part_total : IsTotalOrder part_cmp
part_total = then_total (read_total (λ (p : PartId). p.resource.0)) (read_total (λ (p : PartId). p.index))

-- ties are the same part
pub part_tied : (a b : PartId) → is_eq (part_cmp a b) ≡ part_eq a b
part_tied a b =
    sym (tied_then (nat_cmp a.resource.0 b.resource.0) (nat_cmp a.index b.index))
    ∙ rw (unsigned_tied a.resource.0 b.resource.0, unsigned_tied a.index b.index) refl

below : (less same : Bool) (o : Ordering) → is_lt (ordering_then (cond less Less (cond same Equal Greater)) o) ≡ (less || (same && is_lt o))
below true same o = refl
below false true o = refl
below false false o = refl

less : (less same : Bool) → is_lt (cond less Less (cond same Equal Greater)) ≡ less
less true same = refl
less false true = refl
less false false = refl

-- what is less comes before
pub part_less : (a b : PartId) → is_lt (part_cmp a b) ≡ part_before a b
part_less a b =
    below (nat_lt a.resource.0 b.resource.0) (a.resource.0 == b.resource.0) (nat_cmp a.index b.index)
    ∙ ap (λ t. nat_lt a.resource.0 b.resource.0 || ((a.resource.0 == b.resource.0) && t)) (less (nat_lt a.index b.index) (a.index == b.index))
