use Rattle.std.proofs.Common.{◌≡◌, subst}
use Rattle.std.specs.Prelude.{IfOk}
use Rattle.hx_cluster.specs.declared.planning.Selection.{Selection}
use Rattle.hx_throttle.specs.Throttle.{throttled}
use Rattle.hx_pass.specs.Plans.{plan_over}
use Rattle.hx_pass.proofs.Made.{selection_is}
use Rattle.hx_pass.proofs.plans.plan_of.Goals as goal

pub returns : goal.returns
returns c =
    let models = c.args.models.now in
    let rules = c.args.rules.now in
    let view = c.args.index.now in
    subst (λ (s : Selection). IfOk c.plan_of_selected.result (λ made. made ≡ plan_over models view s (throttled rules view s.accepted)))
    (selection_is models view c.shown.result.now c.shown.ensures c.args.candidates.now c.in_ok-selection.selection c.requires c.in_ok-selection.ensures)
    c.plan_of_selected.ensures
