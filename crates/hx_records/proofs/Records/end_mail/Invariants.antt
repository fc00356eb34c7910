use Rattle.std.proofs.Common.{length}
use Rattle.hx_records.proofs.Ending.{IsPartEnding, the_mail, of_message}
use Rattle.hx_records.proofs.Records.end_mail.Given as goal

abbrev pub invariant-loop-message : goal.invariant-loop-message
invariant-loop-message l = IsPartEnding the_mail (of_message l.session) l.fn.self l.self

abbrev pub decreases-loop-message : goal.decreases-loop-message
decreases-loop-message l = length l.self.mail
