use Rattle.hx_settled.proofs.Settling.{settled_board}
use Rattle.hx_settled.proofs.settled_turns_explain_the_board.Goals as goal

pub returns : goal.returns
returns c = settled_board
