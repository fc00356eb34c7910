use Rattle.std.proofs.Common.{arith}
use Rattle.std.proofs.lemmas.Grind.{common_steps}
use Rattle.hx_parts.proofs.marks.Marks.none.Goals as goal

pub loop-resource-preserved : goal.loop-resource-preserved
loop-resource-preserved c = grind (arith, common_steps)
