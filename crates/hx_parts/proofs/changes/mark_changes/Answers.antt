use Rattle.std.proofs.Common.{rules, ◌≡◌, ◌∙◌, sym, ap, false}
use Rattle.hx_ids.specs.declared.PartId.{PartId}
use Rattle.hx_cluster.specs.Ends.{part_eq}
use Rattle.hx_parts.proofs.Stretches.{behind_front, behind_first, unmarked}
use Rattle.hx_parts.proofs.changes.mark_changes.Goals as goal

pub loop-old-preserved-then-same-gt0 : goal.loop-old-preserved-then-same-gt0
loop-old-preserved-then-same-gt0 g c = λ p free.
    let so = c.loop-old.invariant p free in (
      so.0,
      λ behind. so.1 (behind_front g.T.OfPart.part_of p c.same_front-same.result c.loop-old.old.now c.loop-old.new.now c.same_front-same.ensures.same behind),
    )

pub loop-old-preserved-else-not-mark : goal.loop-old-preserved-else-not-mark
loop-old-preserved-else-not-mark g c = λ p free.
    let part_of = g.T.OfPart.part_of in
    let was = unmarked p c.part.result _ _ (c.mark.ensures (search rules) p) free in
    let so = c.loop-old.invariant p was.1 in
    let other : part_eq (part_of c.item-item.result) p ≡ false = ap (λ (q : PartId). part_eq q p) (sym c.part.ensures) ∙ was.0 in (
      so.0,
      λ behind. so.1 (sym (behind_first part_of p c.item-item.result c.loop-old.old.now c.item-item.is other) ∙ behind),
    )

pub loop-old-preserved : goal.loop-old-preserved
loop-old-preserved g c = λ p free.
    let part_of = g.T.OfPart.part_of in
    let was = unmarked p c.part-else-is_first.result _ _ (c.mark-else-is_first.ensures (search rules) p) free in
    let so = c.loop-old.invariant p was.1 in
    let other : part_eq (part_of c.other-item.result) p ≡ false = ap (λ (q : PartId). part_eq q p) (sym c.part-else-is_first.ensures) ∙ was.0 in (
      so.0,
      λ behind. so.1 (behind ∙ behind_first part_of p c.other-item.result c.loop-old.new.now c.other-item.is other),
    )
