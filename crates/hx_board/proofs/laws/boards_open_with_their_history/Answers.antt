use Rattle.hx_board.proofs.Histories.{opens}
use Rattle.hx_board.proofs.laws.boards_open_with_their_history.Goals as goal

pub returns : goal.returns
returns c = opens
