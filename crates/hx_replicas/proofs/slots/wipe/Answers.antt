use Rattle.std.proofs.Common.{rules}
use Rattle.hx_replicas.proofs.slots.wipe.Goals as goal

pub returns-clause-slot : goal.returns-clause-slot
returns-clause-slot g c = search rules

pub returns-clause-retired : goal.returns-clause-retired
returns-clause-retired g c = search rules
