use Rattle.std.proofs.Common.{rules}
use Rattle.hx_desc.proofs.failures.turn_of.Goals as goal

pub returns-in-Some-None : goal.returns-in-Some-None
returns-in-Some-None c = search rules
