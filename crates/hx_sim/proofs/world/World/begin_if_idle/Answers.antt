use Rattle.std.proofs.Common.{sym, ◌∙◌}
use Rattle.hx_worlds.specs.Turns.{step}
use Rattle.hx_scene.specs.Scenes.{at}
use Rattle.hx_scene.proofs.Reaching.{does_as, nothing_done}
use Rattle.hx_sim.proofs.Stages.{begin_idle, begin_busy}
use Rattle.hx_sim.proofs.Calling.{begin}
use Rattle.hx_sim.proofs.world.World.begin_if_idle.Goals as goal

pub returns-in-Idle : goal.returns-in-Idle
returns-in-Idle g c =
    does_as (begin c.args.voice c.args.controller) (step c.args.voice c.args.controller) c.args.self.now (λ a. begin_idle c.args.voice c.args.controller (at c.args.self.now a) (sym c.stage.ensures ∙ c.in-Idle.is)) (λ o. o) c.args.out.now _ _ _ c.step.ensures

pub returns-in_default : goal.returns-in_default
returns-in_default g c = nothing_done _ _ _ _ (λ a. begin_busy c.args.voice c.args.controller (at c.args.self.now a) (λ e. c.in_default.not-Idle (c.stage.ensures ∙ e)))
