use Rattle.std.proofs.Common.{◌≡◌, ◌+◌, false, length}
use Rattle.hx_ids.specs.declared.PartId.{PartId}
use Rattle.hx_parts.specs.Parts.{items_at}
use Rattle.hx_parts.specs.Marks.{is_marked}
use Rattle.hx_parts.proofs.changes.mark_changes.Given as goal

-- a part that isn't marked wasn't, and has the same items if it has the same of those that are left
abbrev pub invariant-loop-old : goal.invariant-loop-old
invariant-loop-old g l =
    (p : PartId) → is_marked l.marks p ≡ false
    → (is_marked l.fn.marks p ≡ false)
    × (items_at g.T.OfPart.part_of p l.old ≡ items_at g.T.OfPart.part_of p l.new → items_at g.T.OfPart.part_of p l.fn.old ≡ items_at g.T.OfPart.part_of p l.fn.new)

abbrev pub decreases-loop-old : goal.decreases-loop-old
decreases-loop-old g l = length l.old + length l.new
