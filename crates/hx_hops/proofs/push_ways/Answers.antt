use Rattle.std.proofs.Common.{arith}
use Rattle.std.proofs.lemmas.Grind.{common_steps}
use Rattle.hx_hops.proofs.push_ways.Goals as goal

pub returns : goal.returns
returns c = grind (arith, common_steps)
