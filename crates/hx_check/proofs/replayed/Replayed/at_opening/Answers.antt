use Rattle.std.proofs.Common.{sym, subst}
use Rattle.hx_cluster.specs.declared.state.Cluster.{Cluster}
use Rattle.hx_check.specs.Judging.{IsLedTo}
use Rattle.hx_check.proofs.Replaying.{led_opening}
use Rattle.hx_check.proofs.replayed.Replayed.at_opening.Goals as goal

pub invariant_of-result : goal.invariant_of-result
invariant_of-result c = subst (λ (x : Cluster). IsLedTo x 0) (sym c.in_ok-records.ensures) (led_opening c.args.spec.now c.requires)
