use Rattle.hx_settled.proofs.Falling.{stays_on}
use Rattle.hx_settled.proofs.messages_stay_on_their_way.Goals as goal

pub returns : goal.returns
returns c = stays_on
