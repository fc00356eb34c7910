use Rattle.hx_records.proofs.Marked.{removed}
use Rattle.hx_records.proofs.Records.remove_message.Goals as goal

pub invariant_of-self : goal.invariant_of-self
invariant_of-self c =
    removed c.self.inside c.args.self.now c.args.message.now c.args.instance c.state-has.result c.acknowledge.new.self c.lower.new.counts
    c.self.view_is c.self.invariant c.requires.kept c.requires.instance c.requires.pending c.state-has.ensures c.lower.ensures c.acknowledge.ensures.rows c.acknowledge.ensures.mail
