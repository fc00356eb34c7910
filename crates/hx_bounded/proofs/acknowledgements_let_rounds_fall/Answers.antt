use Rattle.hx_bounded.proofs.Laws.{acked_falls}
use Rattle.hx_bounded.proofs.acknowledgements_let_rounds_fall.Goals as goal

pub returns : goal.returns
returns c = acked_falls
