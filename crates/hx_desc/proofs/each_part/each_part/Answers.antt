use Rattle.std.proofs.Common.{arith, rules}
use Rattle.std.proofs.lemmas.Grind.{common_steps}
use Rattle.hx_desc.proofs.each_part.each_part.Goals as goal

pub returns-then-values-parts : goal.returns-then-values-parts
returns-then-values-parts g c = grind (arith, common_steps)

pub returns : goal.returns
returns g c = grind (arith, common_steps)

pub in_order-requires : goal.in_order-requires
in_order-requires g c = search rules
