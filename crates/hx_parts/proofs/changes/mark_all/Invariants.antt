use Rattle.std.proofs.Common.{◌≡◌, false, [], drop}
use Rattle.hx_ids.specs.declared.PartId.{PartId}
use Rattle.hx_parts.specs.Parts.{items_at}
use Rattle.hx_parts.specs.Marks.{is_marked}
use Rattle.hx_parts.proofs.changes.mark_all.Given as goal

-- a part that isn't marked wasn't, and has no items if those that are left have none
abbrev pub invariant-loop-item : goal.invariant-loop-item
invariant-loop-item g l =
    (p : PartId) → is_marked l.marks p ≡ false
    → (is_marked l.fn.marks p ≡ false) × (items_at g.T.OfPart.part_of p (drop l.item-index l.items) ≡ [] → items_at g.T.OfPart.part_of p l.items ≡ [])
