use Rattle.hx_check.proofs.LogsValid.{log_valid}
use Rattle.hx_check.proofs.laws.logs_leave_descriptions_valid.Goals as goal

pub returns : goal.returns
returns c = λ spec lines valid. log_valid spec lines valid
