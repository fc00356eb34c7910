use Rattle.std.proofs.Common.{rules}
use Rattle.hx_replicas.proofs.jobs.Job.run.Goals as goal

pub invariant_of-result : goal.invariant_of-result
invariant_of-result g c = search rules

pub returns-in_default-clause-runs : goal.returns-in_default-clause-runs
returns-in_default-clause-runs g c = search rules
