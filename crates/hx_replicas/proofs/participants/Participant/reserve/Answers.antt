use Rattle.std.proofs.Common.{arith}
use Rattle.std.proofs.lemmas.Grind.{common_steps}
use Rattle.hx_replicas.proofs.participants.Participant.reserve.Goals as goal

pub returns-then-n-self-clause-ledger : goal.returns-then-n-self-clause-ledger
returns-then-n-self-clause-ledger g c = grind (arith, common_steps)
