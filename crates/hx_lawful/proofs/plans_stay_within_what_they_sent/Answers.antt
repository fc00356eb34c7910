use Rattle.hx_lawful.proofs.Unrefused.{plan_within}
use Rattle.hx_lawful.proofs.plans_stay_within_what_they_sent.Goals as goal

pub returns : goal.returns
returns c = plan_within
