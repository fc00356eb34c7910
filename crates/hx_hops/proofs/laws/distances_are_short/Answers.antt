use Rattle.hx_hops.proofs.Shortest.{dist-reached}
use Rattle.hx_hops.proofs.laws.distances_are_short.Goals as goal

pub returns : goal.returns
returns c m s goal none from end = dist-reached m s goal none from end
