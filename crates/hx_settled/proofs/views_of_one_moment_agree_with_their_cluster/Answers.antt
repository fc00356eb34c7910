use Rattle.hx_settled.proofs.Moments.{view_agrees}
use Rattle.hx_settled.proofs.views_of_one_moment_agree_with_their_cluster.Goals as goal

pub returns : goal.returns
returns c = view_agrees
