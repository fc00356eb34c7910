use Rattle.hx_safe.proofs.Whole.{valid_ranged}
use Rattle.hx_safe.proofs.legal_is_ranged.Goals as goal

pub returns : goal.returns
returns c = valid_ranged
