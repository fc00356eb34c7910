use Rattle.std.proofs.Common.{arith}
use Rattle.std.proofs.lemmas.Grind.{elements}
use Rattle.hx_agree.proofs.staff.are_idle.Goals as goal

pub loop-controller-preserved : goal.loop-controller-preserved
loop-controller-preserved c = grind (arith, elements)

pub returns : goal.returns
returns c = grind (arith, elements)
