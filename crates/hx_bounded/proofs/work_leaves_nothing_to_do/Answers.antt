use Rattle.hx_bounded.proofs.Laws.{work_rests}
use Rattle.hx_bounded.proofs.work_leaves_nothing_to_do.Goals as goal

pub returns : goal.returns
returns c = work_rests
