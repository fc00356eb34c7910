use Rattle.std.proofs.Common.{◌++◌, ◌∷◌, [], ap, ◌∙◌}
use Rattle.std.specs.Prelude.{nat_lt}
use Rattle.std.specs.List.{list_all}
use Rattle.hx_cluster.specs.Ends.{message_of}
use Rattle.hx_slots.specs.Kept.{Kept}
use Rattle.hx_slots.specs.Slots.{slot_key, messages_of}
use Rattle.hx_slots.proofs.Calls.{slot_room, sent_err, sent_rows, sent_mail, sent_ok, same_kept, on_err}
use Rattle.hx_slots.proofs.Slots.send.Goals as goal

pub note_sent-requires-clause-room : goal.note_sent-requires-clause-room
note_sent-requires-clause-room c =
    let m = c.args.message in
    slot_room c.self.inside.slots c.self.inside.mail c.self.inside.changes c.self.inside.paid (slot_key m.session m.part) c.self.invariant.0

pub note_sent-requires-clause-slots : goal.note_sent-requires-clause-slots
note_sent-requires-clause-slots c = (c.self.inside.changes, c.self.invariant.0.each_slot)

pub invariant_of-self-in_err-add_message : goal.invariant_of-self-in_err-add_message
invariant_of-self-in_err-add_message c =
    let m = c.args.message in
    let idle = ap (λ (x : Kept). message_of x.mail m.session m.part) c.self.view_is ∙ c.requires.idle in (
      rw c.in_err-add_message.ensures.err
          (sent_err c.self.inside.slots c.note_sent.new.slots c.self.inside.mail c.self.inside.changes c.self.inside.paid m.session m.part m.id c.in_ok-note_sent.ensures.ordered c.self.invariant.0 c.in_ok-note_sent.ensures.placed idle c.if-self.false
          c.in_ok-note_sent.ensures.ok),
      c.note_sent.ensures.mirrored,
    )

pub returns-in_err-add_message-clause-rows : goal.returns-in_err-add_message-clause-rows
returns-in_err-add_message-clause-rows c =
    let m = c.args.message in
    sent_rows c.self.inside.slots c.note_sent.new.slots c.self.inside.mail c.self.inside.changes c.self.inside.paid m.session m.part m.id c.in_ok-note_sent.ensures.ordered c.self.invariant.0 c.in_ok-note_sent.ensures.placed
    c.in_ok-note_sent.ensures.ok
    ∙ ap (λ (x : Kept). x.rows) c.self.view_is

pub returns-in_err-add_message-clause-err : goal.returns-in_err-add_message-clause-err
returns-in_err-add_message-clause-err c =
    let m = c.args.message in
    let rows =
    sent_rows c.self.inside.slots c.note_sent.new.slots c.self.inside.mail c.self.inside.changes c.self.inside.paid m.session m.part m.id c.in_ok-note_sent.ensures.ordered c.self.invariant.0 c.in_ok-note_sent.ensures.placed
    c.in_ok-note_sent.ensures.ok
    in
    on_err c.from_residual-in_err-add_message.result (same_kept _ _ _ _ rows (ap messages_of c.in_err-add_message.ensures.err) ∙ c.self.view_is)

pub invariant_of-self-2 : goal.invariant_of-self-2
invariant_of-self-2 c =
    let m = c.args.message in
    let idle = ap (λ (x : Kept). message_of x.mail m.session m.part) c.self.view_is ∙ c.requires.idle in
    let last = ap (λ (x : Kept). list_all (λ y. nat_lt y.id.0 m.id.0) x.mail) c.self.view_is ∙ c.requires.last in (
      sent_ok c.self.inside.slots c.note_sent.new.slots c.self.inside.mail c.add_message.new.mail c.self.inside.changes c.self.inside.paid m c.in_ok-note_sent.ensures.ordered c.self.invariant.0 c.in_ok-note_sent.ensures.placed idle last
          c.requires.new.0 c.requires.new.1 c.if-self.false c.in_ok-note_sent.ensures.ok c.in_ok-add_message.ensures.ok,
      c.note_sent.ensures.mirrored,
    )

pub returns-clause-rows : goal.returns-clause-rows
returns-clause-rows c =
    let m = c.args.message in
    sent_rows c.self.inside.slots c.note_sent.new.slots c.self.inside.mail c.self.inside.changes c.self.inside.paid m.session m.part m.id c.in_ok-note_sent.ensures.ordered c.self.invariant.0 c.in_ok-note_sent.ensures.placed
    c.in_ok-note_sent.ensures.ok
    ∙ ap (λ (x : Kept). x.rows) c.self.view_is

pub returns-clause-ok : goal.returns-clause-ok
returns-clause-ok c =
    let m = c.args.message in
    let last = ap (λ (x : Kept). list_all (λ y. nat_lt y.id.0 m.id.0) x.mail) c.self.view_is ∙ c.requires.last in
    sent_mail c.self.inside.slots c.self.inside.mail c.add_message.new.mail m c.self.invariant.0.each_message last c.in_ok-add_message.ensures.ok
    ∙ ap (λ (x : Kept). x.mail ++ m ∷ []) c.self.view_is
