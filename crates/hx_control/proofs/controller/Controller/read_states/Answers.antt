use Rattle.std.proofs.Common.{arith}
use Rattle.std.proofs.lemmas.Grind.{common_steps}
use Rattle.hx_control.proofs.controller.Controller.read_states.Goals as goal

pub returns-in_err-read_states_into : goal.returns-in_err-read_states_into
returns-in_err-read_states_into c = grind (arith, common_steps)

pub returns : goal.returns
returns c = grind (arith, common_steps)
