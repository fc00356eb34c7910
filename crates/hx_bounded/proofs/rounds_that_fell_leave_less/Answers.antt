use Rattle.hx_bounded.proofs.Counting.{work_falls}
use Rattle.hx_bounded.proofs.rounds_that_fell_leave_less.Goals as goal

pub returns : goal.returns
returns c = work_falls
