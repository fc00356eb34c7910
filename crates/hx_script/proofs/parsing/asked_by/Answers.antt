use Rattle.std.proofs.Common.{rules}
use Rattle.hx_script.proofs.parsing.asked_by.Goals as goal

pub returns-clause-ok : goal.returns-clause-ok
returns-clause-ok c = search rules
