use Rattle.std.proofs.Common.{arith}
use Rattle.std.proofs.lemmas.Grind.{common_steps}
use Rattle.hx_ideal.proofs.bare.empty_lists.Goals as goal

pub loop-made-preserved : goal.loop-made-preserved
loop-made-preserved g c = grind (arith, common_steps)
