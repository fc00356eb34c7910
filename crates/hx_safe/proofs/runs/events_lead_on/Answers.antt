use Rattle.hx_safe.proofs.On.{on_next}
use Rattle.hx_safe.proofs.runs.events_lead_on.Goals as goal

pub returns : goal.returns
returns c = λ cl safe e. on_next cl e safe.sessions.numbers
