use Rattle.std.proofs.Common.{◌≡◌, false}
use Rattle.hx_ids.specs.declared.PartId.{PartId}
use Rattle.hx_parts.specs.Marks.{is_marked}
use Rattle.hx_parts.proofs.marks.Marks.none.Given as goal

-- no part is marked
abbrev pub invariant-loop-resource : goal.invariant-loop-resource
invariant-loop-resource l = (p : PartId) → is_marked l.cells.items p ≡ false
