use Rattle.std.proofs.Common.{rules}
use Rattle.hx_lists.proofs.SeqPartialEq.eq.Goals as goal

pub returns : goal.returns
returns g c = search rules
