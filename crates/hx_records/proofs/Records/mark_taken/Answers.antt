use Rattle.hx_records.proofs.Marked.{taken, taken_now}
use Rattle.hx_records.proofs.Records.mark_taken.Goals as goal

pub invariant_of-self : goal.invariant_of-self
invariant_of-self c = taken c.self.inside c.args.message.now c.take.new.self c.self.invariant c.take.ensures.rows c.take.ensures.mail

pub returns : goal.returns
returns c = taken_now c.self.inside c.args.self.now c.args.message.now c.take.new.self c.self.view_is c.take.ensures.rows c.take.ensures.mail
