use Rattle.std.proofs.Common.{find, filter, not, ap, ◌≡◌, ◌∙◌, subst, ◌==◌}
use Rattle.std.specs.Prelude.{MatchOption}
use Rattle.hx_slots.specs.Kept.{Kept}
use Rattle.hx_slots.specs.Slots.{messages_of}
use Rattle.hx_cluster.specs.Messages.{has_id}
use Rattle.hx_slots.proofs.Calls.{popped_mail}
use Rattle.hx_slots.proofs.Slots.pop_message.Goals as goal

pub invariant_of-self : goal.invariant_of-self
invariant_of-self c =
    ((popped_mail c.self.inside.slots c.self.inside.mail c.pop_owned.new.store c.self.inside.changes c.self.inside.paid c.args.session c.pop_owned.result c.pop_owned.ensures.ordered c.self.invariant.0 c.pop_owned.ensures.popped).0, c.self.invariant.1)

pub returns-clause-first : goal.returns-clause-first
returns-clause-first c =
    (popped_mail c.self.inside.slots c.self.inside.mail c.pop_owned.new.store c.self.inside.changes c.self.inside.paid c.args.session c.pop_owned.result c.pop_owned.ensures.ordered c.self.invariant.0 c.pop_owned.ensures.popped).1.0
    ∙ ap (λ (x : Kept). find (λ m. m.session.0 == c.args.session.0) x.mail) c.self.view_is

pub returns-clause-mail : goal.returns-clause-mail
returns-clause-mail c =
    let Left : Kept → Type 0 = λ x. MatchOption c.pop_owned.result (messages_of c.pop_owned.new.store ≡ x.mail) (λ m. messages_of c.pop_owned.new.store ≡ filter (λ y. not (has_id c.args.session m.id y)) x.mail) in
    subst Left c.self.view_is
    (popped_mail c.self.inside.slots c.self.inside.mail c.pop_owned.new.store c.self.inside.changes c.self.inside.paid c.args.session c.pop_owned.result c.pop_owned.ensures.ordered c.self.invariant.0 c.pop_owned.ensures.popped).1.1
