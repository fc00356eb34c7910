use Rattle.std.proofs.Common.{◌≡◌, ap, sym, ◌∙◌, subst}
use Rattle.hx_board.specs.Board.{Held}
use Rattle.hx_print.specs.Texts.{view_of_part, viewed_parts}
use Rattle.hx_worlds.specs.Runs.{for_each}
use Rattle.hx_worlds.specs.Scripts.{say_view_of}
use Rattle.hx_scene.specs.Scenes.{SceneState, at}
use Rattle.hx_scene.proofs.Reaching.{does_err, does_as, cut_here}
use Rattle.hx_sim.specs.Viewing.{IsViewOf}
use Rattle.hx_sim.proofs.world.World.view.Goals as goal

pub returns-in_err-rows : goal.returns-in_err-rows
returns-in_err-rows g c = does_err _ _ _ _ _ _ _ _ c.from_residual.ensures.1 (cut_here _ _ _)

pub viewed_parts-requires : goal.viewed_parts-requires
viewed_parts-requires g c = subst (λ (b : Held). IsViewOf c.in_ok-rows.rows b.cluster) (c.board.ensures.board ∙ sym c.board-2.ensures.board) c.in_ok-rows.ensures

pub returns-in_err-parts : goal.returns-in_err-parts
returns-in_err-parts g c = does_err _ _ _ _ _ _ _ _ c.from_residual-in_err-parts.ensures.1 (cut_here _ _ _)

pub view_each-requires-after_bounds : goal.view_each-requires-after_bounds
view_each-requires-after_bounds g c κs within =
    rw (← c.self.view_is) (subst (λ (b : Held). IsViewOf c.in_ok-rows.rows b.cluster) c.board.ensures.board c.in_ok-rows.ensures)

pub returns : goal.returns
returns g c =
    let s = c.args.self.now in
    let same : c.deref.result.now ≡ viewed_parts s.board.cluster =
    c.deref.ensures.value ∙ c.in_ok-parts.ensures ∙ ap (λ (b : Held). viewed_parts b.cluster) c.board-2.ensures.board ∙ ap (λ (v : SceneState). viewed_parts v.board.cluster) c.self.view_is in
    does_as _ _ s (λ a. ap (λ ps. for_each (λ p y. say_view_of p (view_of_part y.world.cluster p) y) ps (at s a)) (sym same)) _ _ _ _ _ c.view_each.ensures
