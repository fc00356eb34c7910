use Rattle.std.proofs.Common.{arith}
use Rattle.std.proofs.lemmas.Grind.{common_steps}
use Rattle.hx_control.proofs.controller.Controller.read_ideals.Goals as goal

pub returns-in_err-same : goal.returns-in_err-same
returns-in_err-same c = grind (arith, common_steps)
