use Rattle.std.proofs.Common.{sym, ◌∙◌}
use Rattle.hx_worlds.specs.Turns.{step}
use Rattle.hx_scene.specs.Scenes.{at}
use Rattle.hx_scene.proofs.Reaching.{does_as, nothing_done}
use Rattle.hx_sim.specs.Words.{step_on}
use Rattle.hx_sim.proofs.Stages.{step_on_idle, step_on_busy}
use Rattle.hx_sim.proofs.world.World.step_on.Goals as goal

pub returns-in-Idle : goal.returns-in-Idle
returns-in-Idle g c = nothing_done _ _ _ _ (λ a. step_on_idle c.args.voice c.args.controller (at c.args.self.now a) (sym c.stage.ensures ∙ c.in-Idle.is))

pub returns-in_default : goal.returns-in_default
returns-in_default g c =
    does_as (step_on c.args.voice c.args.controller) (step c.args.voice c.args.controller) c.args.self.now (λ a. step_on_busy c.args.voice c.args.controller (at c.args.self.now a) (λ e. c.in_default.not-Idle (c.stage.ensures ∙ e))) (λ o. o) c.args.out.now _ _ _ c.step.ensures
