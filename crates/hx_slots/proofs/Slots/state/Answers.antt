use Rattle.std.proofs.Common.{ap, sym, ◌∙◌}
use Rattle.hx_slots.specs.Kept.{Kept}
use Rattle.hx_cluster.specs.Ends.{state_of}
use Rattle.hx_slots.proofs.RowsOf.{state_absent, state_there}
use Rattle.hx_slots.proofs.Slots.state.Goals as goal

pub returns-in_err-slot_of : goal.returns-in_err-slot_of
returns-in_err-slot_of c =
    c.from_residual.ensures
    ∙ sym (state_absent c.self.inside.changes c.args.session c.args.part c.self.inside.slots c.self.invariant.0.each_slot c.in_err-slot_of.ensures)
    ∙ ap (λ (x : Kept). state_of x.rows c.args.session c.args.part) c.self.view_is

pub returns : goal.returns
returns c =
    state_there c.self.inside.changes c.args.session c.args.part c.in_ok-slot_of.field-0.now c.self.inside.slots c.self.invariant.0.each_slot c.in_ok-slot_of.ensures
    ∙ ap (λ (x : Kept). state_of x.rows c.args.session c.args.part) c.self.view_is
