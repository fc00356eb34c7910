use Rattle.hx_settled.proofs.Sending.{dispatch_sent}
use Rattle.hx_settled.proofs.dispatches_of_one_moment_are_sent_whole.Goals as goal

pub returns : goal.returns
returns c = dispatch_sent
