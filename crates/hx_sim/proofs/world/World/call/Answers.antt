use Rattle.std.proofs.Common.{sym, ◌∙◌}
use Rattle.hx_worlds.specs.Turns.{do_call, step}
use Rattle.hx_sim.specs.Words.{plan_and_send}
use Rattle.hx_scene.specs.Scenes.{at}
use Rattle.hx_scene.proofs.Reaching.{does_as}
use Rattle.hx_sim.proofs.Stages.{call_plans, call_steps}
use Rattle.hx_sim.proofs.world.World.call.Goals as goal

pub returns-in-Plan : goal.returns-in-Plan
returns-in-Plan g c =
    does_as (do_call c.args.voice c.args.controller) (plan_and_send c.args.voice c.args.controller) c.args.self.now (λ a. call_plans c.args.voice c.args.controller (at c.args.self.now a) (sym c.stage.ensures ∙ c.in-Plan.is)) (λ o. o) c.args.out.now _ _ _ c.plan_and_send.ensures

pub returns-in_default : goal.returns-in_default
returns-in_default g c =
    does_as (do_call c.args.voice c.args.controller) (step c.args.voice c.args.controller) c.args.self.now (λ a. call_steps c.args.voice c.args.controller (at c.args.self.now a) (λ e. c.in_default.not-Plan (c.stage.ensures ∙ e))) (λ o. o) c.args.out.now _ _ _ c.step.ensures
