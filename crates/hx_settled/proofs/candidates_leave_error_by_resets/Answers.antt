use Rattle.hx_settled.proofs.Goals.{leave_error}
use Rattle.hx_settled.proofs.candidates_leave_error_by_resets.Goals as goal

pub returns : goal.returns
returns c = leave_error
