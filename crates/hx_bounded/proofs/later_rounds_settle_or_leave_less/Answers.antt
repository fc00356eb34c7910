use Rattle.hx_bounded.proofs.Laws.{rounds_fall}
use Rattle.hx_bounded.proofs.later_rounds_settle_or_leave_less.Goals as goal

pub returns : goal.returns
returns c = rounds_fall
