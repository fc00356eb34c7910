use Rattle.std.proofs.Common.{rules}
use Rattle.hx_replicas.proofs.participants.is_mine.Goals as goal

pub returns : goal.returns
returns c = search rules
