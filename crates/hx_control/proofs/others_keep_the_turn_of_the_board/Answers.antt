use Rattle.hx_control.proofs.KeepsTurns.{others_keep}
use Rattle.hx_control.proofs.others_keep_the_turn_of_the_board.Goals as goal

pub returns : goal.returns
returns c = others_keep
