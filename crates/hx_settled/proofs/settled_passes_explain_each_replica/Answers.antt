use Rattle.hx_settled.proofs.Explaining.{settled_explained}
use Rattle.hx_settled.proofs.settled_passes_explain_each_replica.Goals as goal

pub returns : goal.returns
returns c = settled_explained
