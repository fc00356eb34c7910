use Rattle.std.proofs.Common.{ap, sym, ◌∙◌}
use Rattle.hx_slots.specs.Kept.{Kept}
use Rattle.hx_cluster.specs.Ends.{state_of, message_of}
use Rattle.hx_slots.specs.Slots.{sent_last}
use Rattle.hx_slots.proofs.RowsOf.{state_absent, state_there}
use Rattle.hx_slots.proofs.Mail.{message_absent, message_last}
use Rattle.hx_slots.proofs.Calls.{sent_of}
use Rattle.hx_slots.proofs.Slots.standing.Goals as goal

pub returns-in_default-clause-state : goal.returns-in_default-clause-state
returns-in_default-clause-state c =
    sym (state_absent c.self.inside.changes c.args.session c.args.part c.self.inside.slots c.self.invariant.0.each_slot c.in_default.ensures) ∙ ap (λ (x : Kept). state_of x.rows c.args.session c.args.part) c.self.view_is

pub returns-in_default-clause-message : goal.returns-in_default-clause-message
returns-in_default-clause-message c =
    sym (message_absent c.self.inside.slots c.args.session c.args.part c.self.inside.mail c.self.invariant.0.each_message (λ placed. ap sent_last (c.in_default.ensures placed)))
    ∙ ap (λ (x : Kept). message_of x.mail c.args.session c.args.part) c.self.view_is

pub returns-clause-state : goal.returns-clause-state
returns-clause-state c =
    state_there c.self.inside.changes c.args.session c.args.part c.in-Some.slot.now c.self.inside.slots c.self.invariant.0.each_slot c.in-Some.ensures ∙ ap (λ (x : Kept). state_of x.rows c.args.session c.args.part) c.self.view_is

pub returns-clause-message : goal.returns-clause-message
returns-clause-message c =
    c.last_message-message.ensures.message
    ∙ message_last c.self.inside.slots c.args.session c.args.part c.in-Some.slot.now.sent c.self.inside.mail c.last_message-message.ensures.ordered c.self.invariant.0.each_message
    (sent_of c.self.inside.slots c.args.session c.args.part c.in-Some.slot.now c.in-Some.ensures)
    ∙ ap (λ (x : Kept). message_of x.mail c.args.session c.args.part) c.self.view_is
