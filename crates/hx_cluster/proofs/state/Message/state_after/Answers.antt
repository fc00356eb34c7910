use Rattle.std.proofs.Common.{rules}
use Rattle.hx_cluster.proofs.state.Message.state_after.Goals as goal

pub returns-in-Failed : goal.returns-in-Failed
returns-in-Failed c = search rules
