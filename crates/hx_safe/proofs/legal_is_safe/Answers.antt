use Rattle.hx_safe.proofs.Whole.{valid_safe}
use Rattle.hx_safe.proofs.legal_is_safe.Goals as goal

pub returns : goal.returns
returns c = valid_safe
