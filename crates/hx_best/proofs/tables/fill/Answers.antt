use Rattle.std.proofs.Common.{arith}
use Rattle.std.proofs.lemmas.Grind.{common_steps}
use Rattle.hx_best.proofs.tables.fill.Goals as goal

pub loop-table-preserved : goal.loop-table-preserved
loop-table-preserved g c = grind (arith, common_steps)
