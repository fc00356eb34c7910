use Rattle.hx_bounded.proofs.Laws.{settles}
use Rattle.hx_bounded.proofs.settles_end.Goals as goal

pub returns : goal.returns
returns c = settles
