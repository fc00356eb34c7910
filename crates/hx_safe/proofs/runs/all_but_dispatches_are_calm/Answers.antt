use Rattle.hx_safe.proofs.Calming.{calm_next}
use Rattle.hx_safe.proofs.runs.all_but_dispatches_are_calm.Goals as goal

pub returns : goal.returns
returns c = λ cl safe e other. calm_next cl e safe.mail other
