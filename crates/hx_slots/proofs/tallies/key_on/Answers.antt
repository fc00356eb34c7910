use Rattle.std.proofs.Common.{rules}
use Rattle.hx_slots.proofs.tallies.key_on.Goals as goal

pub returns-in-Instance : goal.returns-in-Instance
returns-in-Instance c = search rules
