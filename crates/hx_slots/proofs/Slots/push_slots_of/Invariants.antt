use Rattle.std.proofs.Common.{◌==◌, filter}
use Rattle.std.specs.List.{filter_map}
use Rattle.hx_slots.specs.Slots.{row_of}
use Rattle.hx_slots.proofs.Growing.{IsGrowing}
use Rattle.hx_slots.proofs.Slots.push_slots_of.Given as goal

abbrev pub invariant-loop-slot : goal.invariant-loop-slot
invariant-loop-slot l = IsGrowing l.before l.initial.rows l.rows (filter_map row_of l.slot-iterator) (filter (λ r. r.session.0 == l.fn.session.0) l.fn.self.rows)
