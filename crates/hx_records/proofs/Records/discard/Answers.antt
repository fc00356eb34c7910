use Rattle.std.proofs.Common.{◌≡◌, not, filter, Some, None, sym, ap, ◌∙◌, subst}
use Rattle.hx_cluster.specs.declared.state.Cluster.{Cluster}
use Rattle.hx_cluster.specs.Ends.{instance_in, shown_of, is_live}
use Rattle.hx_cluster.specs.Messages.{pending_of, has_id}
use Rattle.hx_records.proofs.Marked.{own_session, own_named, pending_own, instance_found, dead_found, none_dead, nothing_gone}
use Rattle.hx_records.proofs.Records.discard.Goals as goal

pub remove_message-requires-clause-instance : goal.remove_message-requires-clause-instance
remove_message-requires-clause-instance c =
    let found : pending_of c.args.self.now c.args.session c.args.id ≡ Some c.in-Some-pending.message =
    subst (λ (v : Cluster). pending_of v c.args.session c.args.id ≡ Some c.in-Some-pending.message) c.self.view_is (sym c.pending.ensures ∙ c.in-Some-pending.is) in
    let own = own_session c.args.self.now c.args.session c.args.id c.in-Some-pending.message found in
    ap (λ s. instance_in (shown_of c.args.self.now.live) s) own
    ∙ subst (λ (v : Cluster). instance_in (shown_of v.live) c.args.session ≡ Some c.in-Some.live.instance) c.self.view_is
    (instance_found c.self.inside.sessions.live c.args.session c.in-Some.live (sym c.find.ensures.found ∙ c.in-Some.is))

pub remove_message-requires-clause-pending : goal.remove_message-requires-clause-pending
remove_message-requires-clause-pending c =
    pending_own c.args.self.now c.args.session c.args.id c.in-Some-pending.message
    (subst (λ (v : Cluster). pending_of v c.args.session c.args.id ≡ Some c.in-Some-pending.message) c.self.view_is (sym c.pending.ensures ∙ c.in-Some-pending.is))

pub returns : goal.returns
returns c =
    let found : pending_of c.args.self.now c.args.session c.args.id ≡ Some c.in-Some-pending.message =
    subst (λ (v : Cluster). pending_of v c.args.session c.args.id ≡ Some c.in-Some-pending.message) c.self.view_is (sym c.pending.ensures ∙ c.in-Some-pending.is) in
    c.remove_message.ensures
    ∙ own_named (λ s id. record c.args.self.now { mail = filter (λ m. not (has_id s id m)) c.args.self.now.mail }) c.args.self.now c.args.session c.args.id c.in-Some-pending.message found

pub returns-in_default : goal.returns-in_default
returns-in_default c =
    let dead : is_live c.args.self.now.live c.args.session ≡ Rattle.std.proofs.Common.false =
    subst (λ (v : Cluster). is_live v.live c.args.session ≡ Rattle.std.proofs.Common.false) c.self.view_is
    (dead_found c.self.inside.sessions.live c.args.session (sym c.find.ensures.found ∙ c.in_default.is)) in
    nothing_gone c.args.self.now c.args.session c.args.id (none_dead c.args.self.now c.args.session c.args.id c.requires dead)

pub returns-in_default-pending : goal.returns-in_default-pending
returns-in_default-pending c =
    nothing_gone c.args.self.now c.args.session c.args.id
    (subst (λ (v : Cluster). pending_of v c.args.session c.args.id ≡ None) c.self.view_is (sym c.pending.ensures ∙ c.in_default-pending.is))
