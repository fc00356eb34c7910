use Rattle.hx_safe.proofs.Whole.{reached_ranged}
use Rattle.hx_safe.proofs.reached_is_ranged.Goals as goal

pub returns : goal.returns
returns c = reached_ranged
