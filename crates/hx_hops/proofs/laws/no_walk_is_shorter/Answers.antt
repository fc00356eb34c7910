use Rattle.hx_hops.proofs.Legal.{path-shortest}
use Rattle.hx_hops.proofs.laws.no_walk_is_shorter.Goals as goal

pub returns : goal.returns
returns c m s goal path leads = path-shortest m path s goal leads
