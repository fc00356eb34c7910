use Rattle.hx_settled.proofs.Falling.{ways_stay}
use Rattle.hx_settled.proofs.success_keeps_others_on_their_way.Goals as goal

pub returns : goal.returns
returns c = ways_stay
