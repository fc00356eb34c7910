use Rattle.hx_lawful.proofs.Targeted.{once_targets}
use Rattle.hx_settled.proofs.each_replica_has_one_target.Goals as goal

pub returns : goal.returns
returns c = once_targets
