use Rattle.std.proofs.Common.{◌==◌, filter}
use Rattle.hx_slots.proofs.Growing.{IsGrowing}
use Rattle.hx_slots.proofs.Slots.push_mail_of.Given as goal

abbrev pub invariant-loop-message : goal.invariant-loop-message
invariant-loop-message l = IsGrowing l.before l.initial.mail l.mail l.message-iterator (filter (λ m. m.session.0 == l.fn.session.0) l.fn.self.mail)
