use Rattle.hx_settled.proofs.Gathering.{plan_read}
use Rattle.hx_settled.proofs.plans_look_up_what_a_moment_has.Goals as goal

pub returns : goal.returns
returns c = plan_read
