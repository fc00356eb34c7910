use Rattle.std.proofs.Common.{sym, ◌∙◌}
use Rattle.hx_records.proofs.Insides.{popped}
use Rattle.hx_records.proofs.Records.pop_message.Goals as goal

pub invariant_of-self-2 : goal.invariant_of-self-2
invariant_of-self-2 c =
    popped c.self.inside c.pop_message.new.self c.lower.new.counts c.args.session c.args.instance c.in_ok-message.message c.state-has.result c.self.invariant
    (rw (← c.self.view_is) at c.requires.listed) (rw (← c.self.view_is) at c.requires.instance)
    (sym c.pop_message.ensures.first ∙ c.in_ok-message.was) c.pop_message.ensures.rows c.in_ok-message.ensures.mail c.state-has.ensures c.lower.ensures
