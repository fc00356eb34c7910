use Rattle.std.proofs.Common.{arith}
use Rattle.std.proofs.lemmas.Grind.{elements}
use Rattle.hx_ideal.proofs.ModeClone.clone.Goals as goal

pub returns-in_ok-clone-in-Semi : goal.returns-in_ok-clone-in-Semi
returns-in_ok-clone-in-Semi c = grind (arith, elements)

pub returns-in_ok-clone-in-Custom : goal.returns-in_ok-clone-in-Custom
returns-in_ok-clone-in-Custom c = grind (arith, elements)
