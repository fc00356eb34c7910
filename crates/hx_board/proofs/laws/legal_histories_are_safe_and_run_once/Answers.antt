use Rattle.hx_board.proofs.Histories.{safe_once}
use Rattle.hx_board.proofs.laws.legal_histories_are_safe_and_run_once.Goals as goal

pub returns : goal.returns
returns c = safe_once
