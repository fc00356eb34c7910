use Rattle.std.proofs.Common.{arith, ◌-◌, true, false, sym, ◌∙◌}
use Rattle.hx_scene.proofs.Reaching.{does_err}
use Rattle.hx_sim.proofs.Staying.{still_controller, reached_controller}
use Rattle.hx_sim.proofs.Calling.{loop_begins, loop_on, loop_ends, loop_fails, loop_over}
use Rattle.hx_sim.proofs.world.World.calls.Goals as goal

pub loop-init : goal.loop-init
loop-init g c = loop_begins c.args.voice c.args.controller c.args.count (c.args.count - 0) c.args.self.now c.args.out.now (omega arith)

pub call-requires-after_bounds : goal.call-requires-after_bounds
call-requires-after_bounds g c κs within = reached_controller c.loop.invariant c.args.controller c.requires

pub stage-requires-after_bounds : goal.stage-requires-after_bounds
stage-requires-after_bounds g c κs within = still_controller _ _ _ _ _ _ _ c.call.ensures c.args.controller (reached_controller c.loop.invariant c.args.controller c.requires)

pub loop-preserved : goal.loop-preserved
loop-preserved g c =
    loop_on c.args.voice c.args.controller c.args.count c.loop.counter c.loop.outcome c.in_ok-later.later c.or-outcome.result c.loop-test.true c.or-outcome.ensures c.loop.invariant c.in_ok-later.ensures
    (λ e. c.in_default.not-Idle (c.stage.ensures ∙ e))

pub returns-in_err-later : goal.returns-in_err-later
returns-in_err-later g c =
    does_err _ _ _ _ _ _ _ _ c.from_residual.ensures.1
    (loop_fails c.args.voice c.args.controller c.args.count c.loop.counter c.loop.outcome c.loop-test.true c.loop.invariant _ _ _ c.in_err-later.ensures)

pub returns-in-Idle : goal.returns-in-Idle
returns-in-Idle g c =
    loop_ends c.args.voice c.args.controller c.args.count c.loop.counter c.loop.outcome c.in_ok-later.later c.or-outcome.result c.loop-test.true c.or-outcome.ensures c.loop.invariant c.in_ok-later.ensures
    (sym c.stage.ensures ∙ c.in-Idle.is)

pub returns : goal.returns
returns g c = loop_over c.args.voice c.args.controller c.args.count c.loop.counter c.loop.outcome c.loop-test.false c.loop.invariant
