use Rattle.std.proofs.Common.{arith}
use Rattle.std.proofs.lemmas.Grind.{common_steps}
use Rattle.hx_logs.proofs.words.cut_at.Goals as goal

pub returns-in-None-clause-before : goal.returns-in-None-clause-before
returns-in-None-clause-before c = grind (arith, common_steps)

pub returns-in-None-clause-after : goal.returns-in-None-clause-after
returns-in-None-clause-after c = grind (arith, common_steps)
