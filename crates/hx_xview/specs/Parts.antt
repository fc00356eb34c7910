-- Rows in order of part.
use Rattle.std.specs.Prelude.{List}
use Rattle.std.specs.Ordering.{nat_cmp, ordering_then}
use Rattle.std.specs.declared.cmp.Ordering.{Ordering}
use Rattle.std.specs.List.Sorted.{IsSortedByKey}
use Rattle.hx_ids.specs.declared.PartId.{PartId}
use Rattle.hx_cluster.specs.declared.happenings.Seen.{Seen}

-- the order of parts: by resource, then by index
abbrev pub part_cmp : PartId → PartId → Ordering
part_cmp a b = ordering_then (nat_cmp a.resource.0 b.resource.0) (nat_cmp a.index b.index)

-- no row stands behind one of a later part
abbrev pub IsByPart : List Seen → Type 0
IsByPart rows = IsSortedByKey (λ r. r.part) part_cmp rows
