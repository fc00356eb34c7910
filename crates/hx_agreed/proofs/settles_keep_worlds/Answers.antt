use Rattle.hx_agreed.proofs.Laws.{settles}
use Rattle.hx_agreed.proofs.settles_keep_worlds.Goals as goal

pub returns : goal.returns
returns c = settles
