use Rattle.std.proofs.Common.{rules}
use Rattle.hx_control.proofs.reads.shown.Goals as goal

pub returns-in-Spare : goal.returns-in-Spare
returns-in-Spare c = search rules
