use Rattle.hx_xview.proofs.Looked.{routed_shown}
use Rattle.hx_xview.proofs.laws.routes_follow_what_is_shown.Goals as goal

pub returns : goal.returns
returns c = routed_shown
