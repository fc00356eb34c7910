use Rattle.hx_bounded.proofs.Counting.{work_bounded}
use Rattle.hx_bounded.proofs.work_fits_into_enough_rounds.Goals as goal

pub returns : goal.returns
returns c = work_bounded
