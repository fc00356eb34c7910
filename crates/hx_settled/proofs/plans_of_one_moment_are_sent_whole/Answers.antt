use Rattle.hx_settled.proofs.Sending.{plan_sent}
use Rattle.hx_settled.proofs.plans_of_one_moment_are_sent_whole.Goals as goal

pub returns : goal.returns
returns c = plan_sent
