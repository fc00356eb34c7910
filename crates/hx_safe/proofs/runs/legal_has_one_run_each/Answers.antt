use Rattle.hx_safe.proofs.OneRun.{one_run_each}
use Rattle.hx_safe.proofs.runs.legal_has_one_run_each.Goals as goal

pub returns : goal.returns
returns c = one_run_each
