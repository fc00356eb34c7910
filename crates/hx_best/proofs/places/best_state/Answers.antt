use Rattle.std.proofs.Common.{◌∙◌, ap}
use Rattle.hx_model.specs.declared.Bound.{Bound}
use Rattle.hx_best.specs.Goals.{room_in, best_state}
use Rattle.hx_best.proofs.Best.{best_step, IsStep}
use Rattle.hx_best.proofs.places.best_state.Goals as goal
use Rattle.hx_best.proofs.places.best_state.Goals.{After-room_in-room}

step : (c : After-room_in-room) → IsStep c.args.model.now c.args.replicas c.args.live c.states-state-items.result.now c.loop-state.state-index c.loop-state.left c.room_in-room.result (best_state c.args.model.now c.args.replicas c.args.live c.args.place)
step c =
    best_step c.args.model.now c.args.replicas c.args.live c.states-state-items.result.now c.loop-state.state-index c.loop-state.left c.room_in-room.result (best_state c.args.model.now c.args.replicas c.args.live c.args.place)
    c.states-state-items.ensures.sound c.states-state-items.ensures.states c.loop-state-test.true (c.room_in-room.ensures ∙ ap (λ (b : Bound). room_in b c.args.replicas c.args.live) c.bound.ensures) c.loop-state.invariant

pub returns-then-left-room : goal.returns-then-left-room
returns-then-left-room c = (step (goal.at.returns-then-left-room c).After-room_in-room).here c.if-left-room.true

pub loop-state-preserved : goal.loop-state-preserved
loop-state-preserved c = (step (goal.at.loop-state-preserved c).After-room_in-room).next c.if-left-room.false
