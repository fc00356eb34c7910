use Rattle.std.proofs.Common.{rules}
use Rattle.hx_records.proofs.Records.bound.Goals as goal

pub returns : goal.returns
returns c = search rules
