use Rattle.std.proofs.Common.{arith}
use Rattle.std.proofs.lemmas.Grind.{common_steps}
use Rattle.hx_agree.proofs.untouched.are_cared_for.Goals as goal

pub returns-then-not-is_cared_at : goal.returns-then-not-is_cared_at
returns-then-not-is_cared_at g c = grind (arith, common_steps)
