use Rattle.std.proofs.Common.{arith}
use Rattle.std.proofs.lemmas.Grind.{common_steps}
use Rattle.hx_parts.proofs.changes.is_same_at.Goals as goal

pub returns : goal.returns
returns g c = grind (arith, common_steps)
