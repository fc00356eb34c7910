use Rattle.std.proofs.Common.{arith}
use Rattle.std.proofs.lemmas.Grind.{common_steps}
use Rattle.hx_model.proofs.faults.first_fault.Goals as goal

pub returns-in-Some-transition_fault-clause-fault : goal.returns-in-Some-transition_fault-clause-fault
returns-in-Some-transition_fault-clause-fault c = grind (arith, common_steps)
