use Rattle.hx_settled.proofs.Steady.{read_whole}
use Rattle.hx_settled.proofs.turns_without_a_change_see_one_moment.Goals as goal

pub returns : goal.returns
returns c = read_whole
