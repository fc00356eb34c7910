use Rattle.std.proofs.Common.{arith}
use Rattle.std.proofs.lemmas.Grind.{common_steps}
use Rattle.hx_script.proofs.forms.list_line.Goals as goal

pub returns-in_default : goal.returns-in_default
returns-in_default c = grind (arith, common_steps)

pub returns-in-Err-2 : goal.returns-in-Err-2
returns-in-Err-2 c = grind (arith, common_steps)

pub returns-in_ok-list-in-Ok-2 : goal.returns-in_ok-list-in-Ok-2
returns-in_ok-list-in-Ok-2 c = grind (arith, common_steps)
