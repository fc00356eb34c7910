use Rattle.std.proofs.Common.{rules}
use Rattle.hx_desc.proofs.rules.EndFormForm.read.Goals as goal

pub returns-clause-read : goal.returns-clause-read
returns-clause-read c = search rules
