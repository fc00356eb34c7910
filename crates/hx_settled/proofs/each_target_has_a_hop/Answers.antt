use Rattle.hx_settled.proofs.Hopping.{have_hops}
use Rattle.hx_settled.proofs.each_target_has_a_hop.Goals as goal

pub returns : goal.returns
returns c = have_hops
