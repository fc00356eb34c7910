use Rattle.hx_settled.proofs.Falling.{plans_on_their_way}
use Rattle.hx_settled.proofs.sent_messages_are_on_their_way.Goals as goal

pub returns : goal.returns
returns c = plans_on_their_way
