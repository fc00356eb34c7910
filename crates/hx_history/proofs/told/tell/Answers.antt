use Rattle.std.proofs.Common.{arith}
use Rattle.std.proofs.lemmas.Grind.{common_steps}
use Rattle.hx_history.proofs.told.tell.Goals as goal

pub returns-in-Whole : goal.returns-in-Whole
returns-in-Whole c = grind (arith, common_steps)
