use Rattle.hx_scene.proofs.Reaching.{does_err}
use Rattle.hx_sim.proofs.Staying.{still_controller}
use Rattle.hx_sim.proofs.Calling.{pass_fails, earlier_fails, later_fails, pass_ends}
use Rattle.hx_sim.proofs.world.World.pass.Goals as goal

pub returns-in_err-begin_if_idle : goal.returns-in_err-begin_if_idle
returns-in_err-begin_if_idle g c = does_err _ _ _ _ _ _ _ _ c.from_residual.ensures.1 (pass_fails c.args.voice c.args.controller _ _ _ _ _ c.in_err-begin_if_idle.ensures)

pub rest-requires-after_bounds : goal.rest-requires-after_bounds
rest-requires-after_bounds g c κs within = still_controller _ _ _ _ _ _ _ c.begin_if_idle.ensures c.args.controller c.requires

pub returns-in_err-earlier : goal.returns-in_err-earlier
returns-in_err-earlier g c =
    does_err _ _ _ _ _ _ _ _ c.from_residual-in_err-earlier.ensures.1 (earlier_fails c.args.voice c.args.controller c.in_ok-begin_if_idle.ensures _ _ _ c.in_err-earlier.ensures)

pub rest-requires-2-after_bounds : goal.rest-requires-2-after_bounds
rest-requires-2-after_bounds g c κs within =
    still_controller _ _ _ _ _ _ _ c.rest.ensures c.args.controller (still_controller _ _ _ _ _ _ _ c.begin_if_idle.ensures c.args.controller c.requires)

pub returns-in_err-later : goal.returns-in_err-later
returns-in_err-later g c =
    does_err _ _ _ _ _ _ _ _ c.from_residual-in_err-later.ensures.1
    (later_fails c.args.voice c.args.controller c.in_ok-begin_if_idle.ensures c.in_ok-earlier.ensures _ _ _ c.in_err-later.ensures)

pub returns : goal.returns
returns g c = pass_ends c.args.voice c.args.controller c.in_ok-begin_if_idle.ensures c.in_ok-earlier.ensures c.in_ok-later.ensures c.or.result c.or.ensures
