use Rattle.std.proofs.Common.{find, filter, not, ap, sym, ◌∙◌}
use Rattle.hx_slots.specs.Kept.{Kept}
use Rattle.hx_cluster.specs.Messages.{has_id}
use Rattle.hx_slots.proofs.Entries.{none_of}
use Rattle.hx_slots.proofs.Mail.{pending_absent, pending_other}
use Rattle.hx_slots.proofs.Calls.{removed_mail, removed_kept, unremoved}
use Rattle.hx_slots.proofs.Slots.acknowledge.Goals as goal

pub returns-in_default-clause-mail : goal.returns-in_default-clause-mail
returns-in_default-clause-mail c =
    unremoved (has_id c.args.session c.args.id) c.args.self.now.mail
    (ap (λ (x : Kept). find (has_id c.args.session c.args.id) x.mail) (sym c.self.view_is)
    ∙ pending_absent c.self.inside.slots c.args.session c.args.id c.self.inside.mail c.self.invariant.0.each_message (none_of _ _ c.in_default.ensures.version))

pub invariant_of-self : goal.invariant_of-self
invariant_of-self c = (
  removed_kept c.self.inside.slots c.self.inside.mail c.remove.new.self c.self.inside.changes c.self.inside.paid c.args.id.0 (λ m. not (has_id c.args.session c.args.id m)) c.self.invariant.0 c.remove.ensures.rest
      (removed_mail c.self.inside.slots c.self.inside.mail c.remove.new.self c.args.session c.args.id c.in-Some.message.now c.get.ensures.ordered c.self.invariant.0.each_message c.in-Some.ensures.value (sym c.if-eq.ensures)
      c.remove.ensures.rest),
  c.self.invariant.1,
)

pub returns-then-eq-clause-mail : goal.returns-then-eq-clause-mail
returns-then-eq-clause-mail c =
    removed_mail c.self.inside.slots c.self.inside.mail c.remove.new.self c.args.session c.args.id c.in-Some.message.now c.get.ensures.ordered c.self.invariant.0.each_message c.in-Some.ensures.value (sym c.if-eq.ensures)
    c.remove.ensures.rest
    ∙ ap (λ (x : Kept). filter (λ m. not (has_id c.args.session c.args.id m)) x.mail) c.self.view_is

pub returns-else-eq-clause-mail : goal.returns-else-eq-clause-mail
returns-else-eq-clause-mail c =
    unremoved (has_id c.args.session c.args.id) c.args.self.now.mail
    (ap (λ (x : Kept). find (has_id c.args.session c.args.id) x.mail) (sym c.self.view_is)
    ∙ pending_other c.self.inside.slots c.args.session c.args.id c.in-Some.message.now c.self.inside.mail c.get.ensures.ordered c.self.invariant.0.each_message c.in-Some.ensures.value c.if-eq.ensures)
