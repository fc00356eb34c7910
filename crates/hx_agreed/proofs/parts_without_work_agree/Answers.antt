use Rattle.hx_agreed.proofs.Laws.{agree_without_work}
use Rattle.hx_agreed.proofs.parts_without_work_agree.Goals as goal

pub returns : goal.returns
returns c = agree_without_work
