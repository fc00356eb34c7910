use Rattle.hx_settled.proofs.Placed.{left_all}
use Rattle.hx_settled.proofs.left_is_the_sum_over_all_places.Goals as goal

pub returns : goal.returns
returns c = left_all
