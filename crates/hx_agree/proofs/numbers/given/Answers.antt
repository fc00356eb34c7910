use Rattle.std.proofs.Common.{arith}
use Rattle.std.proofs.lemmas.Grind.{common_steps}
use Rattle.hx_agree.proofs.numbers.given.Goals as goal

pub overflow_add-sum : goal.overflow_add-sum
overflow_add-sum c = grind (arith, common_steps)

pub loop-told-preserved : goal.loop-told-preserved
loop-told-preserved c = grind (arith, common_steps)
