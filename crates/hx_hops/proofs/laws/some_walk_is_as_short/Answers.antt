use Rattle.hx_hops.proofs.Shortest.{some_walk}
use Rattle.hx_hops.proofs.laws.some_walk_is_as_short.Goals as goal

pub returns : goal.returns
returns c m s goal none from end = some_walk m s goal none from end
