use Rattle.hx_safe.proofs.Whole.{valid_ordered}
use Rattle.hx_safe.proofs.legal_is_ordered.Goals as goal

pub returns : goal.returns
returns c = valid_ordered
