use Rattle.hx_xview.proofs.Looked.{routed_held}
use Rattle.hx_xview.proofs.laws.routes_are_holders.Goals as goal

pub returns : goal.returns
returns c = routed_held
