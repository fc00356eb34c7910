use Rattle.hx_worlds.specs.Scripts.{do_view}
use Rattle.hx_scene.proofs.Reaching.{does_err, does_then_deed, fails_inside_deed}
use Rattle.hx_app.proofs.simulation.do_script.Goals as goal

pub returns-in_err-do_lines : goal.returns-in_err-do_lines
returns-in_err-do_lines g c = does_err _ _ _ _ _ _ _ _ c.from_residual.ensures.1 (fails_inside_deed _ _ _ _ _ _ c.in_err-do_lines.ensures (λ y. do_view y))

pub returns : goal.returns
returns g c = does_then_deed c.in_ok-do_lines.ensures (λ y. do_view y) _ _ _ _ c.view.ensures
