use Rattle.std.proofs.Common.{arith}
use Rattle.std.proofs.lemmas.Grind.{common_steps}
use Rattle.hx_slots.proofs.tallies.lower_ends.Goals as goal

pub returns-then-from-to : goal.returns-then-from-to
returns-then-from-to c = grind (arith, common_steps)
