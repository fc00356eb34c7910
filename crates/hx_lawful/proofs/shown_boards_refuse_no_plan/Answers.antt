use Rattle.hx_lawful.proofs.Unrefused.{board_unrefused}
use Rattle.hx_lawful.proofs.shown_boards_refuse_no_plan.Goals as goal

pub returns : goal.returns
returns c = board_unrefused
