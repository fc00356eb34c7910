use Rattle.std.proofs.Common.{rules}
use Rattle.hx_agree.proofs.settled.Known.is_settled_at.Goals as goal

pub returns-then-stands_at : goal.returns-then-stands_at
returns-then-stands_at g c = search rules
