use Rattle.std.proofs.Common.{arith, rules}
use Rattle.std.proofs.lemmas.Grind.{common_steps}
use Rattle.hx_control.proofs.controller.Controller.outcome.Goals as goal

pub returns-then-not-is_empty : goal.returns-then-not-is_empty
returns-then-not-is_empty c = grind (arith, common_steps)

pub returns-then-not-is_empty-2 : goal.returns-then-not-is_empty-2
returns-then-not-is_empty-2 c = grind (arith, common_steps)

pub returns-then-self-answer : goal.returns-then-self-answer
returns-then-self-answer c = search rules

pub returns-else-self-answer : goal.returns-else-self-answer
returns-else-self-answer c = search rules
