use Rattle.std.proofs.Common.{rules}
use Rattle.hx_desc.proofs.failures.PartFormForm.read.Goals as goal

pub returns-clause-read : goal.returns-clause-read
returns-clause-read c = search rules
