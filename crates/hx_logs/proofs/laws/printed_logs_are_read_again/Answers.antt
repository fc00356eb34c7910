use Rattle.hx_logs.proofs.PrintedLogs.{log_read}
use Rattle.hx_logs.proofs.laws.printed_logs_are_read_again.Goals as goal

pub returns-clause-entries : goal.returns-clause-entries
returns-clause-entries c = λ spec cl h valid is. (log_read spec cl h valid is).0

pub returns-clause-names : goal.returns-clause-names
returns-clause-names c = λ spec cl h valid is. (log_read spec cl h valid is).1
