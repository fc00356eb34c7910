use Rattle.std.proofs.Common.{length, sym, ap, ◌∙◌}
use Rattle.hx_control.specs.Controllers.{Controller}
use Rattle.hx_worlds.specs.World.{controller_of}
use Rattle.hx_worlds.specs.Turns.{do_calls, do_rest}
use Rattle.hx_scene.specs.Scenes.{at, world_of}
use Rattle.hx_scene.proofs.Reaching.{does_as}
use Rattle.hx_sim.proofs.world.World.rest.Goals as goal

pub returns : goal.returns
returns g c =
    does_as (do_rest c.args.voice c.args.controller) (do_calls c.args.voice c.args.controller c.calls_left-count.result) c.args.self.now
    (λ a. ap (λ n. do_calls c.args.voice c.args.controller n (at c.args.self.now a))
    (sym (c.calls_left-count.ensures ∙ ap (λ (k : Controller). length k.turn.left) c.controller.ensures ∙ ap (λ s. length (controller_of (world_of s) c.args.controller).turn.left) c.self.view_is)))
    (λ o. o) c.args.out.now _ _ _ c.calls.ensures
