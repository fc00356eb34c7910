use Rattle.std.proofs.Common.{◌≡◌, List, ap, sym, ◌∙◌}
use Rattle.hx_cluster.specs.declared.happenings.Seen.{Seen}
use Rattle.hx_board.specs.Board.{Held}
use Rattle.hx_worlds.specs.Scripts.{say_route, routed}
use Rattle.hx_scene.specs.Scenes.{at}
use Rattle.hx_scene.proofs.Reaching.{does_err, does_as, cut_here}
use Rattle.hx_sim.proofs.world.World.route_of.Goals as goal

pub returns-in_err-instances : goal.returns-in_err-instances
returns-in_err-instances g c = does_err _ _ _ _ _ _ _ _ c.from_residual.ensures.1 (cut_here _ _ _)

pub returns : goal.returns
returns g c =
    let s = c.self.inside.scene in
    let p = c.args.part in
    let t = c.args.state in
    let same : c.deref.result.now ≡ routed s.board.cluster.posted p t =
    c.deref.ensures.value ∙ c.in_ok-instances.ensures ∙ ap (λ (rows : List Seen). routed rows p t) (c.posted-rows.ensures ∙ ap (λ (b : Held). b.cluster.posted) c.board.ensures.board) in
    rw (← c.self.view_is) (does_as _ _ s (λ a. ap (λ l. say_route p t l (at s a)) (sym same)) _ _ _ _ _ c.say_route.ensures)
