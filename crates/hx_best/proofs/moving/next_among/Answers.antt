use Rattle.std.proofs.Common.{rules}
use Rattle.hx_best.proofs.moving.next_among.Goals as goal

pub returns-in-Some-clause-found : goal.returns-in-Some-clause-found
returns-in-Some-clause-found c = search rules
