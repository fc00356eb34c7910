use Rattle.hx_lawful.proofs.Holding.{holds_of_legal}
use Rattle.hx_lawful.proofs.what_holds_of_legal_histories.Goals as goal

pub returns : goal.returns
returns c = holds_of_legal
