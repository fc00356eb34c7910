use Rattle.std.proofs.Common.{rules}
use Rattle.hx_agree.proofs.settled.is_settled.Goals as goal

pub returns-then-not-has_session : goal.returns-then-not-has_session
returns-then-not-has_session g c = search rules

pub returns-else-not-has_session : goal.returns-else-not-has_session
returns-else-not-has_session g c = search rules
