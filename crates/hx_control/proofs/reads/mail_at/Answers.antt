use Rattle.std.proofs.Common.{rules}
use Rattle.hx_control.proofs.reads.mail_at.Goals as goal

pub returns-then-read-sessions-clause-calls : goal.returns-then-read-sessions-clause-calls
returns-then-read-sessions-clause-calls c = search rules
