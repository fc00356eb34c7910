use Rattle.std.proofs.Common.{arith}
use Rattle.std.proofs.lemmas.Grind.{common_steps}
use Rattle.hx_throttle.proofs.table.Loads.raise.Goals as goal

pub returns-in_ok-self-inside-in-Some : goal.returns-in_ok-self-inside-in-Some
returns-in_ok-self-inside-in-Some c = grind (arith, common_steps)
