use Rattle.std.proofs.Common.{rules}
use Rattle.hx_agree.proofs.staff.has_begun.Goals as goal

pub returns-in-Some : goal.returns-in-Some
returns-in-Some g c = search rules
