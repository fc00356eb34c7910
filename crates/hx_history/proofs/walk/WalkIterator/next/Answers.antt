use Rattle.std.proofs.Common.{arith}
use Rattle.std.proofs.lemmas.Grind.{common_steps}
use Rattle.hx_history.proofs.walk.WalkIterator.next.Goals as goal

pub returns-in_err-kind-clause-steps : goal.returns-in_err-kind-clause-steps
returns-in_err-kind-clause-steps c = grind (arith, common_steps)

pub split_at-requires : goal.split_at-requires
split_at-requires c = grind (arith, common_steps)

pub split_at-requires-2 : goal.split_at-requires-2
split_at-requires-2 c = grind (arith, common_steps)

pub invariant_of-self : goal.invariant_of-self
invariant_of-self c = grind (arith, common_steps)
