use Rattle.std.proofs.Common.{◌≡◌, ap, sym, ◌∙◌, map}
use Rattle.hx_cluster.specs.Reads.{live_shown}
use Rattle.hx_board.specs.Board.{Held}
use Rattle.hx_worlds.specs.Runs.{for_each}
use Rattle.hx_worlds.specs.Jobs.{do_work}
use Rattle.hx_scene.specs.Scenes.{SceneState, at}
use Rattle.hx_scene.proofs.Reaching.{does_err, does_as, cut_here}
use Rattle.hx_sim.proofs.Standing.{shown_there}
use Rattle.hx_sim.proofs.world.World.work_all.Goals as goal

pub returns-in_err-shown : goal.returns-in_err-shown
returns-in_err-shown g c = rw (← c.self.view_is) (does_err _ _ _ _ _ _ _ _ c.from_residual.ensures.1 (cut_here _ _ _))

pub work_each-requires-after_bounds : goal.work_each-requires-after_bounds
work_each-requires-after_bounds g c κs within =
    rw (← c.self.view_is)
    (shown_there c.self.inside.scene c.board.ensures.scene c.deref.result.now (c.deref.ensures.value ∙ c.in_ok-shown.ensures ∙ ap (λ (b : Held). live_shown b.cluster) c.board.ensures.board))

pub returns : goal.returns
returns g c =
    let s = c.args.self.now in
    let shown = c.deref.result.now in
    let same : shown ≡ live_shown s.board.cluster =
    c.deref.ensures.value ∙ c.in_ok-shown.ensures ∙ ap (λ (b : Held). live_shown b.cluster) c.board.ensures.board ∙ ap (λ (v : SceneState). live_shown v.board.cluster) c.self.view_is in
    does_as _ (λ x. for_each (λ i y. do_work i y) (map (λ e. e.1) shown) x) s (λ a. ap (λ l. for_each do_work (map (λ e. e.1) l) (at s a)) (sym same)) _ _ _ _ _ c.work_each.ensures
