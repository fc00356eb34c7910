use Rattle.std.proofs.Common.{arith}
use Rattle.std.proofs.lemmas.Grind.{common_steps}
use Rattle.hx_check.proofs.turns.calls_after_live.Goals as goal

pub loop-shown-preserved : goal.loop-shown-preserved
loop-shown-preserved c = grind (arith, common_steps)

pub loop-shown-2-init : goal.loop-shown-2-init
loop-shown-2-init c = grind (arith, common_steps)

pub loop-shown-2-preserved : goal.loop-shown-2-preserved
loop-shown-2-preserved c = grind (arith, common_steps)

pub returns : goal.returns
returns c = grind (arith, common_steps)
