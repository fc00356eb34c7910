use Rattle.std.proofs.Common.{arith}
use Rattle.std.proofs.lemmas.Grind.{common_steps}
use Rattle.hx_hops.proofs.Hops.build.Goals as goal

pub overflow_mul-width : goal.overflow_mul-width
overflow_mul-width c = grind (arith, common_steps)

pub loop-goal-preserved : goal.loop-goal-preserved
loop-goal-preserved c = grind (arith, common_steps)
