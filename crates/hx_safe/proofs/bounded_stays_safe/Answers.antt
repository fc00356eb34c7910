use Rattle.hx_safe.proofs.Whole.{safe_by}
use Rattle.hx_safe.proofs.bounded_stays_safe.Goals as goal

pub returns : goal.returns
returns c = safe_by
