use Rattle.std.proofs.Common.{◌==◌, ◌&&◌, List, ap, ◌∙◌}
use Rattle.std.specs.List.{list_any, filter_map}
use Rattle.hx_slots.specs.declared.slot.Slot.{Slot}
use Rattle.hx_slots.specs.Kept.{Kept}
use Rattle.hx_slots.specs.Slots.{row_of}
use Rattle.hx_slots.proofs.Calls.{holds_rows}
use Rattle.hx_slots.proofs.Slots.holds_row.Goals as goal

pub loop-slot-init : goal.loop-slot-init
loop-slot-init c =
    ap (λ (xs : List Slot). list_any (λ r. r.part.resource.0 == c.args.resource.0) (filter_map row_of xs)) (c.into_iter-slot-iterator.ensures.into_iter_gives ∙ c.owned-slot-items.ensures)
    ∙ holds_rows c.self.inside.changes c.args.session c.args.resource.0 c.self.inside.slots c.self.invariant.0.each_slot
    ∙ ap (λ (x : Kept). list_any (λ r. (r.part.resource.0 == c.args.resource.0) && (r.session.0 == c.args.session.0)) x.rows) c.self.view_is
