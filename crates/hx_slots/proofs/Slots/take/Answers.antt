use Rattle.std.proofs.Common.{true, find, ap, ◌∙◌}
use Rattle.hx_slots.specs.Kept.{Kept}
use Rattle.hx_cluster.specs.Messages.{has_id}
use Rattle.hx_slots.proofs.Calls.{mail_room, marked_mail, taken_kept}
use Rattle.hx_slots.proofs.Slots.take.Goals as goal

pub replace-requires : goal.replace-requires
replace-requires c = mail_room c.self.inside.slots c.self.inside.mail c.args.message.now.id.0 c.self.invariant.0.each_message

pub invariant_of-self : goal.invariant_of-self
invariant_of-self c =
    let m = c.args.message.now in (
      taken_kept c.self.inside.slots c.self.inside.mail c.replace.new.self c.self.inside.changes c.self.inside.paid m c.replace.ensures.ordered c.self.invariant.0
          (ap (λ (x : Kept). find (has_id m.session m.id) x.mail) c.self.view_is ∙ c.requires.pending) c.requires.free c.replace.ensures.new,
      c.self.invariant.1,
    )

pub returns-clause-mail : goal.returns-clause-mail
returns-clause-mail c = marked_mail _ _ _ _ (λ m. record m { taken = true }) c.args.message.now c.replace.ensures.ordered c.self.invariant.0.each_message (ap (λ (x : Kept). x.mail) c.self.view_is) c.requires.pending c.replace.ensures.new
