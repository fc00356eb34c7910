use Rattle.std.proofs.Common.{not, filter, ap, ◌∙◌}
use Rattle.hx_cluster.specs.Ends.{instance_in, shown_of}
use Rattle.hx_cluster.specs.Messages.{has_id}
use Rattle.hx_records.proofs.Marked.{own_session, own_named, pending_own}
use Rattle.hx_records.proofs.Records.remove_pending.Goals as goal

pub remove_message-requires-clause-instance : goal.remove_message-requires-clause-instance
remove_message-requires-clause-instance c =
    ap (λ s. instance_in (shown_of c.args.self.now.live) s) (own_session c.args.self.now c.args.session c.args.id c.args.message.now c.requires.pending)
    ∙ c.requires.instance

pub remove_message-requires-clause-pending : goal.remove_message-requires-clause-pending
remove_message-requires-clause-pending c = pending_own c.args.self.now c.args.session c.args.id c.args.message.now c.requires.pending

pub returns : goal.returns
returns c =
    c.remove_message.ensures
    ∙ own_named (λ s id. record c.args.self.now { mail = filter (λ m. not (has_id s id m)) c.args.self.now.mail }) c.args.self.now c.args.session c.args.id c.args.message.now c.requires.pending
