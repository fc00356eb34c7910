use Rattle.std.proofs.Common.{◌≡◌, ◌==◌, ◌&&◌}
use Rattle.std.specs.List.{list_any, filter_map}
use Rattle.hx_slots.specs.Slots.{row_of}
use Rattle.hx_slots.proofs.Slots.holds_row.Given as goal

abbrev pub invariant-loop-slot : goal.invariant-loop-slot
invariant-loop-slot l =
    list_any (λ r. r.part.resource.0 == l.resource.0) (filter_map row_of l.slot-iterator) ≡ list_any (λ r. (r.part.resource.0 == l.resource.0) && (r.session.0 == l.fn.session.0)) l.fn.self.rows
