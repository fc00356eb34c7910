use Rattle.hx_control.proofs.KeepsTurns.{step_keeps}
use Rattle.hx_control.proofs.step_keeps_the_turn_of_the_board.Goals as goal

pub returns : goal.returns
returns c = step_keeps
