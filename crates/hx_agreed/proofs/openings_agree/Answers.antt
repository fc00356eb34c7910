use Rattle.hx_agreed.proofs.Laws.{openings}
use Rattle.hx_agreed.proofs.openings_agree.Goals as goal

pub returns : goal.returns
returns c = openings
