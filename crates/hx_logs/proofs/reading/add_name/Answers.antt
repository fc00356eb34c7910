use Rattle.std.proofs.Common.{rules}
use Rattle.hx_logs.proofs.reading.add_name.Goals as goal

pub returns-in_ok-intern-clause-ok : goal.returns-in_ok-intern-clause-ok
returns-in_ok-intern-clause-ok c = search rules

pub returns : goal.returns
returns c = search rules
