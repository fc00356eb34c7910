use Rattle.hx_agreed.proofs.Laws.{lines}
use Rattle.hx_agreed.proofs.lines_keep_worlds.Goals as goal

pub returns : goal.returns
returns c = lines
