use Rattle.hx_safe.proofs.Weighing.{reached_weighed}
use Rattle.hx_safe.proofs.reached_is_weighed.Goals as goal

pub returns : goal.returns
returns c = reached_weighed
