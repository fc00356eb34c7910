use Rattle.hx_settled.proofs.Placed.{tries_most}
use Rattle.hx_settled.proofs.tries_are_at_most_two_each.Goals as goal

pub returns : goal.returns
returns c = tries_most
