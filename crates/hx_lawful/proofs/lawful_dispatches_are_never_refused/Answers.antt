use Rattle.hx_lawful.proofs.Unrefused.{lawful_unrefused}
use Rattle.hx_lawful.proofs.lawful_dispatches_are_never_refused.Goals as goal

pub returns : goal.returns
returns c = lawful_unrefused
