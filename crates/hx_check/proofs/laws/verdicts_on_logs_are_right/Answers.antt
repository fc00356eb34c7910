use Rattle.hx_script.specs.Logs.{log_of}
use Rattle.hx_check.proofs.Built.{lawful_built, first_unlawful}
use Rattle.hx_check.proofs.LogsValid.{log_valid}
use Rattle.hx_check.proofs.laws.verdicts_on_logs_are_right.Goals as goal

pub returns-clause-lawful : goal.returns-clause-lawful
returns-clause-lawful c = λ spec lines n valid is. lawful_built (log_of spec lines).1 (log_of spec lines).0 n (log_valid spec lines valid) is

pub returns-clause-unlawful : goal.returns-clause-unlawful
returns-clause-unlawful c = λ spec lines line cause valid is. first_unlawful (log_of spec lines).1 (log_of spec lines).0 line cause (log_valid spec lines valid) is
