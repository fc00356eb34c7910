use Rattle.hx_safe.proofs.Whole.{counts_by}
use Rattle.hx_safe.proofs.counts_rise_to_limits_alone.Goals as goal

pub returns : goal.returns
returns c = counts_by
