use Rattle.hx_board.proofs.Histories.{each_paid}
use Rattle.hx_board.proofs.laws.each_event_is_paid_for.Goals as goal

pub returns : goal.returns
returns c = each_paid
