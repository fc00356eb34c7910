use Rattle.hx_scene.proofs.Reaching.{does_err, does_then, fails_inside}
use Rattle.hx_sim.proofs.Staying.{still_controller}
use Rattle.hx_sim.proofs.world.World.plan_and_send.Goals as goal

pub returns-in_err-step : goal.returns-in_err-step
returns-in_err-step g c = does_err _ _ _ _ _ _ _ _ c.from_residual.ensures.1 (fails_inside _ _ _ _ _ _ c.in_err-step.ensures _)

pub step_on-requires-after_bounds : goal.step_on-requires-after_bounds
step_on-requires-after_bounds g c κs within = still_controller _ _ _ _ _ _ _ c.step.ensures c.args.controller c.requires

pub returns : goal.returns
returns g c = does_then c.in_ok-step.ensures _ _ _ _ _ c.step_on.ensures
