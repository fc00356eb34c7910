use Rattle.hx_settled.proofs.Moments.{view_shows}
use Rattle.hx_settled.proofs.views_of_one_moment_show_their_cluster.Goals as goal

pub returns : goal.returns
returns c = view_shows
