use Rattle.hx_settled.proofs.Falling.{way_falls}
use Rattle.hx_settled.proofs.success_on_the_way_leaves_one_less.Goals as goal

pub returns : goal.returns
returns c = way_falls
