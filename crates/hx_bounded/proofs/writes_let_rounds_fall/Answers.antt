use Rattle.hx_bounded.proofs.Laws.{written_falls}
use Rattle.hx_bounded.proofs.writes_let_rounds_fall.Goals as goal

pub returns : goal.returns
returns c = written_falls
