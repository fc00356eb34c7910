use Rattle.hx_logs.proofs.ReadLogs.{log_printed}
use Rattle.hx_logs.proofs.laws.read_logs_are_printed_again.Goals as goal

pub returns : goal.returns
returns c = λ spec lines cl h valid legal told. log_printed spec lines cl h valid legal told
