use Rattle.std.proofs.Common.{◌≡◌, ◌+◌, ◌++◌, ◌∷◌, [], true, nat_lt, sym, ap, ◌∙◌, subst, arith}
use Rattle.std.specs.List.{list_all}
use Rattle.hx_cluster.specs.declared.state.Message.{Message}
use Rattle.hx_cluster.specs.declared.state.Cluster.{Cluster}
use Rattle.hx_cluster.specs.declared.happenings.Placed.TheVariants as placings
use Rattle.hx_cluster.specs.Messages.{message_from, placed_of, after_placed}
use Rattle.hx_safe.proofs.Kept.{IsKept}
use Rattle.hx_records.specs.Records.{seen}
use Rattle.hx_records.proofs.Marked.{on_ok, numbers_below, sent}
use Rattle.hx_records.proofs.Records.send.Goals as goal

pub send-requires-clause-last : goal.send-requires-clause-last
send-requires-clause-last c =
    subst (λ (m : Message). list_all (λ (x : Message). nat_lt x.id.0 m.id.0) (seen c.self.inside).mail ≡ true) (sym c.message_from-message.ensures)
    (numbers_below (seen c.self.inside) c.args.proposal.now c.args.id (subst IsKept (sym c.self.view_is) c.requires.kept)
    (subst (λ (v : Cluster). placed_of v c.args.proposal.now ≡ placings.Sent c.args.id) (sym c.self.view_is) c.requires.placed))

pub invariant_of-self-2 : goal.invariant_of-self-2
invariant_of-self-2 c =
    let a = c.self.inside in
    let q = c.args.proposal.now in
    sent a c.args.self.now q c.args.id c.args.instance c.args.has c.message_from-message.result c.send.new.self c.raise.new.counts
    c.self.view_is c.self.invariant c.requires.kept c.requires.placed c.requires.instance c.requires.has c.message_from-message.ensures c.in_ok-raise.ensures.ok
    c.send.ensures.rows (on_ok c.send.result (sym c.is_err.ensures.value ∙ c.if-is_err.false) c.send.ensures.ok)

pub overflow_add-self : goal.overflow_add-self
overflow_add-self c = omega (arith, c.requires.room.0, ap (λ (x : Cluster). x.next_msg) c.self.view_is)

pub overflow_add-self-2 : goal.overflow_add-self-2
overflow_add-self-2 c = omega (arith, c.requires.room.1, ap (λ (x : Cluster). x.change) c.self.view_is)

pub returns-clause-ok : goal.returns-clause-ok
returns-clause-ok c =
    let a = c.self.inside in
    let q = c.args.proposal.now in
    let id = c.args.id in
    let mail : c.send.new.self.mail ≡ a.slots.mail ++ message_from (seen a) id q ∷ [] =
    on_ok c.send.result (sym c.is_err.ensures.value ∙ c.if-is_err.false) c.send.ensures.ok
    ∙ ap (λ (m : Message). a.slots.mail ++ m ∷ []) c.message_from-message.ensures in
    (λ i. let d : Cluster = record (seen a) { rows = c.send.ensures.rows i; mail = mail i; next_msg = a.rest.next_msg + 1; change = a.rest.change + 1 } in d)
    ∙ ap (λ (x : Cluster). after_placed x q (placings.Sent id)) c.self.view_is
