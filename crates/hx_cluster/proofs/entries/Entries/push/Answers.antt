use Rattle.std.proofs.Common.{arith}
use Rattle.std.proofs.lemmas.Grind.{common_steps}
use Rattle.hx_cluster.proofs.entries.Entries.push.Goals as goal

pub returns-in-AtBest : goal.returns-in-AtBest
returns-in-AtBest c = grind (arith, common_steps)
