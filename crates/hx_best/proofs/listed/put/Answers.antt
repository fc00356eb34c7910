use Rattle.std.proofs.Common.{arith}
use Rattle.std.proofs.lemmas.Grind.{common_steps}
use Rattle.hx_best.proofs.listed.put.Goals as goal

pub returns-after-place-capacity : goal.returns-after-place-capacity
returns-after-place-capacity c = grind (arith, common_steps)
