use Rattle.std.proofs.Common.{Some, ap, ◌∙◌}
use Rattle.hx_worlds.specs.Settles.{tell_settle}
use Rattle.hx_scene.specs.Scenes.{at}
use Rattle.hx_scene.proofs.Reaching.{does_as}
use Rattle.hx_sim.proofs.world.World.tell_settle.Goals as goal

pub returns-in_default : goal.returns-in_default
returns-in_default g c =
    let s = c.self.inside.scene in
    rw (← c.self.view_is) (does_as _ _ s (λ a. ap (λ l. tell_settle c.args.voice l c.args.settled.now (at s a)) c.in_default.is) _ _ _ _ _ c.note.ensures.does)

pub returns-in-None : goal.returns-in-None
returns-in-None g c =
    let s = c.self.inside.scene in
    rw (← c.self.view_is) (does_as _ _ s
    (λ a. ap (λ l. tell_settle c.args.voice l c.args.settled.now (at s a)) c.in-Some.is ∙ ap (λ o. tell_settle c.args.voice (Some c.in-Some.controller) o (at s a)) c.in-None.is) _ _ _ _ _ c.note-in-None.ensures.does)
