use Rattle.hx_settled.proofs.Placed.{left_most}
use Rattle.hx_settled.proofs.left_is_at_most_one_walk_each.Goals as goal

pub returns : goal.returns
returns c = left_most
