use Rattle.std.proofs.Common.{arith}
use Rattle.std.proofs.lemmas.Grind.{common_steps}
use Rattle.hx_check.proofs.judge.Judge.turn_of.Goals as goal

pub returns : goal.returns
returns c = grind (arith, common_steps)
