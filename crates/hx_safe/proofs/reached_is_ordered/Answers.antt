use Rattle.hx_safe.proofs.Whole.{reached_ordered}
use Rattle.hx_safe.proofs.reached_is_ordered.Goals as goal

pub returns : goal.returns
returns c = reached_ordered
