use Rattle.std.proofs.Common.{arith}
use Rattle.std.proofs.lemmas.Grind.{common_steps}
use Rattle.hx_desc.proofs.Stopped.{part_stopped}
use Rattle.hx_desc.proofs.resources.ResourceForm.read_ideal.Goals as goal

pub returns-in_err-model : goal.returns-in_err-model
returns-in_err-model c =
    λ whole.
    part_stopped _ _ _ _ _ c.from_residual.ensures.1 c.in_err-model.ensures.read

pub returns-in_err-ideal : goal.returns-in_err-ideal
returns-in_err-ideal c = grind (arith, common_steps)

pub returns : goal.returns
returns c = grind (arith, common_steps)
