use Rattle.std.proofs.Common.{arith}
use Rattle.std.proofs.lemmas.Grind.{common_steps}
use Rattle.hx_best.proofs.lookups.open_of.Goals as goal

pub loop-shown-preserved : goal.loop-shown-preserved
loop-shown-preserved c = grind (arith, common_steps)

pub returns : goal.returns
returns c = grind (arith, common_steps)
