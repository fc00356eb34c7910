use Rattle.std.proofs.Common.{arith, ◌-◌}
use Rattle.hx_scene.proofs.Reaching.{here, does_err}
use Rattle.hx_sim.proofs.Staying.{reached_controller}
use Rattle.hx_sim.proofs.Settling.{rounds_begin, round_on, round_settles, round_fails, rounds_over}
use Rattle.hx_sim.proofs.world.World.rounds.Goals as goal

pub loop-passes-init : goal.loop-passes-init
loop-passes-init g c = rounds_begin c.args.most (c.args.most - 0) c.args.controller c.args.self.now c.args.out.now (omega arith) (here _ _ _)

pub round-requires-after_bounds : goal.round-requires-after_bounds
round-requires-after_bounds g c κs within = reached_controller c.loop-passes.invariant c.args.controller c.requires

pub returns-in_err-report : goal.returns-in_err-report
returns-in_err-report g c =
    does_err _ _ _ _ _ _ _ _ c.from_residual.ensures.1
    (round_fails c.args.most c.loop-passes.passes c.args.controller c.loop-passes-test.true c.loop-passes.invariant _ _ _ c.in_err-report.ensures)

pub loop-passes-preserved : goal.loop-passes-preserved
loop-passes-preserved g c =
    round_on c.args.most c.loop-passes.passes c.args.controller c.in_ok-report.field-0 c.loop-passes-test.true c.in_default.is c.loop-passes.invariant c.in_ok-report.ensures

pub returns-in-Some : goal.returns-in-Some
returns-in-Some g c =
    round_settles c.args.most c.loop-passes.passes c.args.controller c.in_ok-report.field-0 c.in-Some.report c.loop-passes-test.true c.in-Some.is c.loop-passes.invariant c.in_ok-report.ensures

pub returns : goal.returns
returns g c = rounds_over c.args.most c.loop-passes.passes c.args.controller (omega (arith, c.loop-passes-test.false, c.loop-passes.auto.passes-end)) c.loop-passes.invariant
