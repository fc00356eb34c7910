use Rattle.std.proofs.Common.{ap, sym, ◌∙◌}
use Rattle.hx_worlds.specs.Jobs.{deliver_from_bag}
use Rattle.hx_scene.specs.Scenes.{at}
use Rattle.hx_scene.proofs.Reaching.{does_as, does_err, cut_here}
use Rattle.hx_sim.proofs.Bags.{found_there}
use Rattle.hx_sim.proofs.world.World.deliver.Goals as goal

pub deliver-requires-clause-bagged : goal.deliver-requires-clause-bagged
deliver-requires-clause-bagged g c κs within =
    let found = c.in_ok-message.ensures in
    rw found.same (found_there c.args.id c.self.inside.scene.bag c.in-Some.message (sym found.found ∙ c.in-Some.is))

pub returns-in-Some : goal.returns-in-Some
returns-in-Some g c =
    let s = c.self.inside.scene in
    let found = c.in_ok-message.ensures in
    rw (← c.self.view_is)
    (does_as _ _ s (λ a. ap (λ o. deliver_from_bag c.args.voice c.args.instance o (at s a)) (sym found.found ∙ c.in-Some.is)) _ _ _ _ _ (rw found.same at c.deliver.ensures.does))

pub returns-in_err-message : goal.returns-in_err-message
returns-in_err-message g c =
    rw (← c.self.view_is, c.fetched.ensures.same) (does_err _ _ _ _ _ _ _ _ c.from_residual.ensures.1 (cut_here _ _ _))

pub returns-in-None : goal.returns-in-None
returns-in-None g c =
    let s = c.self.inside.scene in
    let found = c.in_ok-message.ensures in
    rw (← c.self.view_is)
    (does_as _ _ s (λ a. ap (λ o. deliver_from_bag c.args.voice c.args.instance o (at s a)) (sym found.found ∙ c.in-None.is)) _ _ _ _ _ (rw found.same at c.note.ensures.does))
