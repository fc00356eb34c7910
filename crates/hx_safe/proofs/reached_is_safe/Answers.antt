use Rattle.hx_safe.proofs.Whole.{reached_safe}
use Rattle.hx_safe.proofs.reached_is_safe.Goals as goal

pub returns : goal.returns
returns c = reached_safe
