use Rattle.std.proofs.Common.{◌≡◌, IfOk, subst}
use Rattle.hx_cluster.specs.declared.planning.Plan.{Plan}
use Rattle.hx_pass.proofs.Made.{plan_same}
use Rattle.hx_pass.proofs.plan.Goals as goal

pub returns : goal.returns
returns c =
    let spec = c.args.spec.now in
    subst (λ (p : Plan). IfOk c.plan_on.result (λ made. made ≡ p))
    (plan_same spec.models c.as_slice.result.now spec.rules c.as_slice-2.result.now c.args.view.now c.in_ok-index.index c.as_slice.ensures c.as_slice-2.ensures c.in_ok-index.ensures) c.plan_on.ensures
