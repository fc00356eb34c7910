use Rattle.hx_lawful.proofs.Fitting.{plan_fits}
use Rattle.hx_lawful.proofs.plans_fit_their_views.Goals as goal

pub returns : goal.returns
returns c = plan_fits
