use Rattle.hx_bounded.proofs.Laws.{turn_over}
use Rattle.hx_bounded.proofs.turns_of_the_leader_end.Goals as goal

pub returns : goal.returns
returns c = turn_over
