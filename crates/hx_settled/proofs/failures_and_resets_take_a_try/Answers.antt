use Rattle.hx_settled.proofs.Spending.{tries_spent}
use Rattle.hx_settled.proofs.failures_and_resets_take_a_try.Goals as goal

pub returns : goal.returns
returns c = tries_spent
