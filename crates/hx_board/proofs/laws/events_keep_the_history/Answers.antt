use Rattle.hx_board.proofs.Histories.{goes_on}
use Rattle.hx_board.proofs.laws.events_keep_the_history.Goals as goal

pub returns : goal.returns
returns c = goes_on
