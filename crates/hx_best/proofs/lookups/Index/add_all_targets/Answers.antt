use Rattle.std.proofs.Common.{ℕ, List}
use Rattle.hx_cluster.specs.declared.planning.Target.{Target}
use Rattle.hx_best.specs.Targets.{targets}
use Rattle.hx_best.proofs.Found.{added_more}
use Rattle.hx_best.proofs.lookups.Index.add_all_targets.Goals as goal

pub loop-number-preserved : goal.loop-number-preserved
loop-number-preserved c =
    let of : ℕ → List Target = λ n. targets c.args.models.now c.args.self.now (record { 0 = n }) in
    added_more of c.loop-number.number c.args.found.now.items c.loop-number.found.items c.add_targets.new.found.items c.loop-number.invariant c.in_ok-add_targets.ensures
