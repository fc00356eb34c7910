use Rattle.std.proofs.Common.{◌≡◌, ap, sym, ◌∙◌}
use Rattle.hx_board.specs.Board.{Held}
use Rattle.hx_worlds.specs.Runs.{say}
use Rattle.hx_worlds.specs.Summaries.{summary_of}
use Rattle.hx_scene.specs.Scenes.{at}
use Rattle.hx_scene.specs.Telling.{text_of}
use Rattle.hx_scene.proofs.Reaching.{does_err, does_as, cut_here}
use Rattle.hx_sim.proofs.world.World.summary.Goals as goal

pub returns-in_err-summary : goal.returns-in_err-summary
returns-in_err-summary g c = rw (← c.self.view_is) (does_err _ _ _ _ _ _ _ _ c.from_residual.ensures.1 (cut_here _ _ _))

pub returns : goal.returns
returns g c =
    let s = c.self.inside.scene in
    let same : text_of c.in_ok-summary.summary ≡ summary_of s.board.history =
    c.in_ok-summary.ensures ∙ ap summary_of (c.history.ensures.value ∙ ap (λ (b : Held). b.history) c.board.ensures.board) in
    rw (← c.self.view_is) (does_as _ _ s (λ a. ap (λ t. say 1 t (at s a)) (sym same)) _ _ _ _ _ c.say_summary.ensures)
