use Rattle.hx_hops.proofs.Shortest.{hop_first}
use Rattle.hx_hops.proofs.laws.a_hop_is_nearer_and_first.Goals as goal

pub returns : goal.returns
returns c m s goal t is = let first = hop_first m s goal t is in (first.legal, first.nearer, first.first)
