use Rattle.hx_settled.proofs.Goals.{goal_same}
use Rattle.hx_settled.proofs.goals_look_at_errors_alone.Goals as goal

pub returns : goal.returns
returns c = goal_same
