use Rattle.std.proofs.Common.{rules}
use Rattle.hx_cluster.proofs.steps.is_expired.Goals as goal

pub returns : goal.returns
returns c = search rules
