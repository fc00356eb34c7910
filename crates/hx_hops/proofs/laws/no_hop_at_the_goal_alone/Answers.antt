use Rattle.hx_hops.proofs.Shortest.{hop_none, hop_at_goal}
use Rattle.hx_hops.proofs.laws.no_hop_at_the_goal_alone.Goals as goal

pub returns : goal.returns
returns c m s goal none from end = (hop_none m s goal none from end, hop_at_goal m s goal)
