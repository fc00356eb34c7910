use Rattle.std.proofs.Common.{◌≡◌, Some, None, ap, sym, ◌∙◌}
use Rattle.hx_board.specs.Board.{Held}
use Rattle.hx_cluster.specs.Steps.{newest}
use Rattle.hx_worlds.specs.Scripts.{route_on}
use Rattle.hx_scene.specs.Scenes.{SceneState, at}
use Rattle.hx_scene.proofs.Reaching.{does_as}
use Rattle.hx_sim.proofs.world.World.route.Goals as goal

pub returns-in-Some : goal.returns-in-Some
returns-in-Some g c =
    let s = c.args.self.now in
    let name = c.args.name in
    let found : newest s.board.cluster name ≡ Some c.in-Some.resource =
    sym (ap (λ (v : SceneState). newest v.board.cluster name) c.self.view_is) ∙ sym (ap (λ (b : Held). newest b.cluster name) c.board.ensures.board) ∙ sym c.newest.ensures ∙ c.in-Some.is in
    does_as _ _ s (λ a. ap (λ o. route_on c.args.voice c.args.index c.args.state o (at s a)) found) _ _ _ _ _ c.route_of.ensures

pub returns-in-None : goal.returns-in-None
returns-in-None g c =
    let s = c.self.inside.scene in
    let name = c.args.name in
    let found : newest s.board.cluster name ≡ None = sym (ap (λ (b : Held). newest b.cluster name) c.board.ensures.board) ∙ sym c.newest.ensures ∙ c.in-None.is in
    rw (← c.self.view_is) (does_as _ _ s (λ a. ap (λ o. route_on c.args.voice c.args.index c.args.state o (at s a)) found) _ _ _ _ _ c.note.ensures.does)
