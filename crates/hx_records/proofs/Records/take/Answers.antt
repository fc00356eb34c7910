use Rattle.std.proofs.Common.{◌≡◌, Some, ◌∙◌, sym, ap}
use Rattle.hx_cluster.specs.declared.state.Cluster.{Cluster}
use Rattle.hx_cluster.specs.Messages.{pending_of, after_take}
use Rattle.hx_records.proofs.Marked.{own_named, pending_own}
use Rattle.hx_records.proofs.Records.take.Goals as goal

pub mark_taken-requires-clause-pending : goal.mark_taken-requires-clause-pending
mark_taken-requires-clause-pending c =
    let found : pending_of c.args.self.now c.args.session c.args.id ≡ Some c.in-Some.message = ap (λ (v : Cluster). pending_of v c.args.session c.args.id) (sym c.self.view_is) ∙ sym c.pending.ensures ∙ c.in-Some.is in
    pending_own c.args.self.now c.args.session c.args.id c.in-Some.message found

pub returns-clause-ok : goal.returns-clause-ok
returns-clause-ok c =
    let found : pending_of c.args.self.now c.args.session c.args.id ≡ Some c.in-Some.message = ap (λ (v : Cluster). pending_of v c.args.session c.args.id) (sym c.self.view_is) ∙ sym c.pending.ensures ∙ c.in-Some.is in
    c.mark_taken.ensures ∙ own_named (after_take c.args.self.now) c.args.self.now c.args.session c.args.id c.in-Some.message found
