use Rattle.std.proofs.Common.{true, false, sym, ap, ◌∙◌}
use Rattle.hx_worlds.specs.Runs.{done}
use Rattle.hx_worlds.specs.Turns.{chosen, out_of_turn, pass_over}
use Rattle.hx_scene.specs.Scenes.{at}
use Rattle.hx_scene.proofs.Reaching.{does_as, nothing_done}
use Rattle.hx_sim.proofs.world.World.pass_over.Goals as goal

pub returns-then-is_passed_over : goal.returns-then-is_passed_over
returns-then-is_passed_over g c =
    nothing_done (pass_over c.args.voice c.args.controller) tt c.args.self.now c.args.out.now
    (λ a. ap (λ b. chosen b (λ y. done y) (λ y. out_of_turn c.args.voice c.args.controller y) (at c.args.self.now a)) (sym c.is_passed_over.ensures ∙ c.if-is_passed_over.true))

pub returns-else-is_passed_over : goal.returns-else-is_passed_over
returns-else-is_passed_over g c =
    does_as (pass_over c.args.voice c.args.controller) (out_of_turn c.args.voice c.args.controller) c.args.self.now
    (λ a. ap (λ b. chosen b (λ y. done y) (λ y. out_of_turn c.args.voice c.args.controller y) (at c.args.self.now a)) (sym c.is_passed_over.ensures ∙ c.if-is_passed_over.false))
    (λ r. tt) c.args.out.now _ _ _ c.out_of_turn.ensures
