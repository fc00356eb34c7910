use Rattle.std.proofs.Common.{find, ap, sym, ◌∙◌}
use Rattle.hx_slots.specs.Kept.{Kept}
use Rattle.hx_cluster.specs.Messages.{has_id}
use Rattle.hx_slots.proofs.Entries.{none_of}
use Rattle.hx_slots.proofs.Mail.{pending_absent, pending_own, pending_other}
use Rattle.hx_slots.proofs.Slots.pending.Goals as goal

pub returns-in_err-message : goal.returns-in_err-message
returns-in_err-message c =
    c.from_residual.ensures
    ∙ sym (pending_absent c.self.inside.slots c.args.session c.args.id c.self.inside.mail c.self.invariant.0.each_message (none_of _ _ c.in_err-message.ensures.version))
    ∙ ap (λ (x : Kept). find (has_id c.args.session c.args.id) x.mail) c.self.view_is

pub returns-then-eq : goal.returns-then-eq
returns-then-eq c =
    pending_own c.self.inside.slots c.args.session c.args.id c.in_ok-message.message.now c.self.inside.mail c.get.ensures.ordered c.self.invariant.0.each_message c.in_ok-message.ensures.value c.if-eq.ensures
    ∙ ap (λ (x : Kept). find (has_id c.args.session c.args.id) x.mail) c.self.view_is

pub returns-else-eq : goal.returns-else-eq
returns-else-eq c =
    sym (pending_other c.self.inside.slots c.args.session c.args.id c.in_ok-message.message.now c.self.inside.mail c.get.ensures.ordered c.self.invariant.0.each_message c.in_ok-message.ensures.value c.if-eq.ensures)
    ∙ ap (λ (x : Kept). find (has_id c.args.session c.args.id) x.mail) c.self.view_is
