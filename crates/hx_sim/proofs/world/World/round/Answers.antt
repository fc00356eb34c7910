use Rattle.std.proofs.Common.{sym, ◌∙◌}
use Rattle.hx_scene.proofs.Reaching.{does_err}
use Rattle.hx_sim.proofs.Settling.{pass_stops, pass_settles, pass_works, pass_work_fails}
use Rattle.hx_sim.proofs.world.World.round.Goals as goal

pub returns-in_err-pass : goal.returns-in_err-pass
returns-in_err-pass g c = does_err _ _ _ _ _ _ _ _ c.from_residual.ensures.1 (pass_stops c.args.controller _ _ _ _ _ c.in_err-pass.ensures)

pub returns-in-Some : goal.returns-in-Some
returns-in-Some g c = pass_settles c.args.controller c.in_ok-pass.field-0 c.in-Some.report c.in_ok-pass.ensures (sym c.report_of.ensures ∙ c.in-Some.is)

pub returns-in_err-work_all-in-None : goal.returns-in_err-work_all-in-None
returns-in_err-work_all-in-None g c =
    does_err _ _ _ _ _ _ _ _ c.from_residual-in_err-work_all-in-None.ensures.1
    (pass_work_fails c.args.controller c.in_ok-pass.field-0 c.in_ok-pass.ensures (sym c.report_of.ensures ∙ c.in-None.is) _ _ _ c.in_err-work_all-in-None.ensures)

pub returns-in_ok-work_all-in-None : goal.returns-in_ok-work_all-in-None
returns-in_ok-work_all-in-None g c = pass_works c.args.controller c.in_ok-pass.field-0 c.in_ok-pass.ensures (sym c.report_of.ensures ∙ c.in-None.is) c.in_ok-work_all-in-None.ensures
