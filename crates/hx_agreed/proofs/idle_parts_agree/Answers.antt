use Rattle.hx_agreed.proofs.Laws.{idle_agree}
use Rattle.hx_agreed.proofs.idle_parts_agree.Goals as goal

pub returns : goal.returns
returns c = idle_agree
