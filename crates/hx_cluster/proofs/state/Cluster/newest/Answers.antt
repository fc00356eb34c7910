use Rattle.std.proofs.Common.{sym, ◌∙◌, arith}
use Rattle.std.proofs.lemmas.Bool.Decides.{nat_tests}
use Rattle.hx_cluster.proofs.Newest.{newest-step, newest-end}
use Rattle.hx_cluster.proofs.state.Cluster.newest.Goals as goal
use Rattle.hx_cluster.proofs.state.Cluster.newest.Goals.{then-resource-name, else-resource-name}

pub loop-place-preserved : goal.loop-place-preserved
loop-place-preserved c =
    let step = newest-step _ _ c.loop-place.place c.args.name c.loop-place.found _ c.as_slice-resource-items.ensures c.loop-place-test.true c.resource-item.is in
    elim c.if-resource-name.branch [ then-resource-name w ↦ grind (arith, nat_tests, step, c.loop-place.invariant) | else-resource-name w ↦ grind (arith, nat_tests, step, c.loop-place.invariant) ]

pub returns : goal.returns
returns c = sym (newest-end _ _ c.loop-place.place c.args.name c.loop-place.found c.as_slice-resource-items.ensures c.loop-place-test.false) ∙ c.loop-place.invariant
