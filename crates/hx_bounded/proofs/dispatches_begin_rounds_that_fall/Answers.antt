use Rattle.hx_bounded.proofs.Sent.{dispatch_falls}
use Rattle.hx_bounded.proofs.dispatches_begin_rounds_that_fall.Goals as goal

pub returns : goal.returns
returns c = dispatch_falls
