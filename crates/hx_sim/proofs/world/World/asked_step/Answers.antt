use Rattle.std.proofs.Common.{ap, sym, ◌∙◌}
use Rattle.hx_script.specs.Asked.{step_asked}
use Rattle.hx_worlds.specs.Scripts.{do_asked}
use Rattle.hx_scene.specs.Scenes.{SceneState, at}
use Rattle.hx_scene.proofs.Reaching.{does_err, does_as, cut_here}
use Rattle.hx_sim.proofs.Standing.{step_in}
use Rattle.hx_sim.proofs.world.World.asked_step.Goals as goal

pub returns-in_err-asked : goal.returns-in_err-asked
returns-in_err-asked g c = does_err _ _ _ _ _ _ _ _ c.from_residual.ensures.1 (cut_here _ _ _)

pub step_if_asked-requires-after_bounds : goal.step_if_asked-requires-after_bounds
step_if_asked-requires-after_bounds g c κs within =
    rw (← c.self.view_is)
    (step_in c.self.inside.scene c.board.ensures.scene c.args.what.now c.in_ok-asked.asked (rw (← c.self.view_is) at c.requires)
    (c.in_ok-asked.ensures ∙ ap (λ (v : SceneState). step_asked v.board.cluster c.args.what.now) (sym c.self.view_is)))

pub returns : goal.returns
returns g c =
    let s = c.args.self.now in
    does_as _ _ s (λ a. ap (λ o. do_asked c.args.voice o (at s a)) (sym c.in_ok-asked.ensures)) _ _ _ _ _ c.step_if_asked.ensures
