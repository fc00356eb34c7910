use Rattle.std.proofs.Common.{◌∙◌}
use Rattle.hx_cluster.specs.Messages.{after_write}
use Rattle.hx_records.proofs.Reaching.{whole_reached}
use Rattle.hx_records.proofs.Marked.{own_named, pending_own}
use Rattle.hx_records.proofs.Records.write.Goals as goal

pub bring-requires-clause-kept : goal.bring-requires-clause-kept
bring-requires-clause-kept c = (whole_reached c.args.self.now c.requires.reached).kept

pub bring-requires-clause-pending : goal.bring-requires-clause-pending
bring-requires-clause-pending c = pending_own c.args.self.now c.args.session c.args.id c.in_ok-message.message c.in_ok-message.ensures.message

pub returns-clause-ok : goal.returns-clause-ok
returns-clause-ok c = c.bring.ensures ∙ own_named (λ s id. after_write c.args.self.now s id c.args.outcome) c.args.self.now c.args.session c.args.id c.in_ok-message.message c.in_ok-message.ensures.message

pub writable-requires : goal.writable-requires
writable-requires c = (whole_reached c.args.self.now c.requires.reached).kept
