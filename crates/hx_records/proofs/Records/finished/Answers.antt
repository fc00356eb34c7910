use Rattle.std.proofs.Common.{◌≡◌, Bool, true, false, Option, Some, None, ap, sym, ◌∙◌, subst, arith}
use Rattle.std.specs.Prelude.{if◌then◌else◌}
use Rattle.hx_ids.specs.declared.SessionId.{SessionId}
use Rattle.hx_ids.specs.declared.MsgId.{MsgId}
use Rattle.hx_cluster.specs.declared.state.Message.{Message}
use Rattle.hx_cluster.specs.declared.state.Cluster.{Cluster}
use Rattle.hx_cluster.specs.declared.happenings.AckFault.TheVariants as acks
use Rattle.hx_cluster.specs.Ends.{instance_in, shown_of, is_live}
use Rattle.hx_cluster.specs.Messages.{pending_of}
use Rattle.hx_cluster.specs.Marks.{ack_fault, ack_refusal}
use Rattle.hx_records.proofs.Marked.{instance_found, live_found, dead_found}
use Rattle.hx_records.proofs.Records.finished.Goals as goal

-- a refusal by what is found
refused_dead : (c : Cluster) (s : SessionId) (id : MsgId) → is_live c.live s ≡ false → ack_refusal c s id ≡ Some acks.SessionEnded
refused_dead c s id dead = ap (λ (b : Bool). if b then ack_fault (pending_of c s id) else Some acks.SessionEnded) dead

refused_by : (c : Cluster) (s : SessionId) (id : MsgId) (o : Option Message) → is_live c.live s ≡ true → pending_of c s id ≡ o → ack_refusal c s id ≡ ack_fault o
refused_by c s id o live found = ap (λ (b : Bool). if b then ack_fault (pending_of c s id) else Some acks.SessionEnded) live ∙ ap ack_fault found

refused_unwritten : (m : Message) → m.written ≡ false → ack_fault (Some m) ≡ Some acks.NotWritten
refused_unwritten m free = grind (arith, free)

not_refused : (m : Message) → m.written ≡ true → ack_fault (Some m) ≡ None
not_refused m written = grind (arith, written)

pub returns-in_default-clause-refused : goal.returns-in_default-clause-refused
returns-in_default-clause-refused c =
    refused_dead c.args.self.now c.args.session c.args.id
    (subst (λ (v : Cluster). is_live v.live c.args.session ≡ false) c.self.view_is
    (dead_found c.self.inside.sessions.live c.args.session (sym c.find.ensures.found ∙ c.in_default.is)))

pub returns-in_default-pending-clause-refused : goal.returns-in_default-pending-clause-refused
returns-in_default-pending-clause-refused c =
    refused_by c.args.self.now c.args.session c.args.id None
    (subst (λ (v : Cluster). is_live v.live c.args.session ≡ true) c.self.view_is
    (live_found c.self.inside.sessions.live c.args.session c.in-Some.live (sym c.find.ensures.found ∙ c.in-Some.is)))
    (subst (λ (v : Cluster). pending_of v c.args.session c.args.id ≡ None) c.self.view_is (sym c.pending.ensures ∙ c.in_default-pending.is))

pub returns-then-not-message-clause-refused : goal.returns-then-not-message-clause-refused
returns-then-not-message-clause-refused c =
    refused_by c.args.self.now c.args.session c.args.id (Some c.in-Some-pending.message)
    (subst (λ (v : Cluster). is_live v.live c.args.session ≡ true) c.self.view_is
    (live_found c.self.inside.sessions.live c.args.session c.in-Some.live (sym c.find.ensures.found ∙ c.in-Some.is)))
    (subst (λ (v : Cluster). pending_of v c.args.session c.args.id ≡ Some c.in-Some-pending.message) c.self.view_is (sym c.pending.ensures ∙ c.in-Some-pending.is))
    ∙ refused_unwritten c.in-Some-pending.message (grind (arith, c.if-not-message.true))

pub returns-clause-refused : goal.returns-clause-refused
returns-clause-refused c =
    refused_by c.args.self.now c.args.session c.args.id (Some c.in-Some-pending.message)
    (subst (λ (v : Cluster). is_live v.live c.args.session ≡ true) c.self.view_is
    (live_found c.self.inside.sessions.live c.args.session c.in-Some.live (sym c.find.ensures.found ∙ c.in-Some.is)))
    (subst (λ (v : Cluster). pending_of v c.args.session c.args.id ≡ Some c.in-Some-pending.message) c.self.view_is (sym c.pending.ensures ∙ c.in-Some-pending.is))
    ∙ not_refused c.in-Some-pending.message (grind (arith, c.if-not-message.false))

pub returns-clause-instance : goal.returns-clause-instance
returns-clause-instance c =
    subst (λ (v : Cluster). instance_in (shown_of v.live) c.args.session ≡ Some c.in-Some.live.instance) c.self.view_is
    (instance_found c.self.inside.sessions.live c.args.session c.in-Some.live (sym c.find.ensures.found ∙ c.in-Some.is))
