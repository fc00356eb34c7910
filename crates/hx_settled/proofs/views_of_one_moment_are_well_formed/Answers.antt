use Rattle.hx_settled.proofs.Moments.{view_formed}
use Rattle.hx_settled.proofs.views_of_one_moment_are_well_formed.Goals as goal

pub returns : goal.returns
returns c = view_formed
