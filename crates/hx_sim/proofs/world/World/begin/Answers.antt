use Rattle.std.proofs.Common.{ap, ◌∙◌}
use Rattle.hx_cluster.specs.Steps.{has_controller}
use Rattle.hx_worlds.specs.Runs.{done}
use Rattle.hx_worlds.specs.Turns.{step}
use Rattle.hx_scene.specs.Scenes.{SceneState}
use Rattle.hx_scene.proofs.Reaching.{there, then_on, does_err, fails_after, fails_inside}
use Rattle.hx_sim.proofs.Beginning.{begins}
use Rattle.hx_sim.proofs.world.World.begin.Goals as goal

pub step-requires-after_bounds : goal.step-requires-after_bounds
step-requires-after_bounds g c κs within =
    ap (λ (u : SceneState). has_controller u.board.cluster c.args.controller) c.restart.ensures ∙ (rw (← c.self.view_is) at c.requires)

pub returns-in_err-step : goal.returns-in_err-step
returns-in_err-step g c =
    rw (← c.self.view_is)
    (does_err _ _ _ _ _ _ _ _ c.from_residual.ensures.1
    (fails_after (begins c.args.voice c.args.controller c.self.inside.scene _ _ c.restart.ensures) _ _ _
    (fails_inside (step c.args.voice c.args.controller) _ _ _ _ _ c.in_err-step.ensures (λ _ z. done z))))

pub returns : goal.returns
returns g c =
    rw (← c.self.view_is) (there (begins c.args.voice c.args.controller c.self.inside.scene _ _ c.restart.ensures) (then_on c.in_ok-step.ensures (λ _ z. done z)))
