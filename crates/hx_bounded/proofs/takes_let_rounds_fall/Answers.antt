use Rattle.hx_bounded.proofs.Falls.{take_falls}
use Rattle.hx_bounded.proofs.takes_let_rounds_fall.Goals as goal

pub returns : goal.returns
returns c = take_falls
