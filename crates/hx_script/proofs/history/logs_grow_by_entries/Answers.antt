use Rattle.hx_script.proofs.Entries.{log_more}
use Rattle.hx_script.proofs.history.logs_grow_by_entries.Goals as goal

pub returns : goal.returns
returns c = log_more
