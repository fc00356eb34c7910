use Rattle.std.proofs.Common.{true, find, ap, ◌∙◌}
use Rattle.hx_slots.specs.Kept.{Kept}
use Rattle.hx_slots.specs.Slots.{slot_key}
use Rattle.hx_cluster.specs.Ends.{state_of}
use Rattle.hx_cluster.specs.Messages.{has_id, row_put}
use Rattle.hx_slots.proofs.RowsOf.{state_had}
use Rattle.hx_slots.proofs.Calls.{slot_room, message_placed, message_sent, mail_room, marked_mail, written_kept, written_rows}
use Rattle.hx_slots.proofs.Slots.write.Goals as goal

pub put_at-had-requires-clause-placed : goal.put_at-had-requires-clause-placed
put_at-had-requires-clause-placed c =
    let m = c.args.message.now in
    message_placed c.self.inside.slots m (has_id m.session m.id) c.self.inside.mail c.self.invariant.0.each_message (ap (λ (x : Kept). find (has_id m.session m.id) x.mail) c.self.view_is ∙ c.requires.pending)

pub returns-clause-rows : goal.returns-clause-rows
returns-clause-rows c =
    let m = c.args.message.now in
    (written_rows c.self.inside.slots c.put_at-had.new.slots c.self.inside.mail c.self.inside.changes m c.args.state c.put_at-had.ensures.ordered c.self.invariant.0.each_slot c.self.invariant.0.each_message
    (ap (λ (x : Kept). find (has_id m.session m.id) x.mail) c.self.view_is ∙ c.requires.pending) c.put_at-had.ensures.slots).1
    ∙ ap (λ (x : Kept). row_put x.rows m.session m.part c.args.state) c.self.view_is

pub returns-clause-had : goal.returns-clause-had
returns-clause-had c =
    let m = c.args.message.now in
    let placed = message_placed c.self.inside.slots m (has_id m.session m.id) c.self.inside.mail c.self.invariant.0.each_message (ap (λ (x : Kept). find (has_id m.session m.id) x.mail) c.self.view_is ∙ c.requires.pending) in
    state_had c.self.inside.changes m.session m.part c.put_at-had.result c.self.inside.slots c.self.invariant.0.each_slot placed c.put_at-had.ensures.ordered c.put_at-had.ensures.had
    ∙ ap (λ (x : Kept). state_of x.rows m.session m.part) c.self.view_is

pub returns-clause-mail : goal.returns-clause-mail
returns-clause-mail c = marked_mail _ _ _ _ (λ m. record m { written = true }) c.args.message.now c.replace.ensures.ordered c.self.invariant.0.each_message (ap (λ (x : Kept). x.mail) c.self.view_is) c.requires.pending c.replace.ensures.new

pub invariant_of-self : goal.invariant_of-self
invariant_of-self c =
    let m = c.args.message.now in (
      written_kept c.self.inside.slots c.put_at-had.new.slots c.self.inside.mail c.replace.new.self c.self.inside.changes c.self.inside.paid m c.args.state c.put_at-had.ensures.ordered c.replace.ensures.ordered c.self.invariant.0
          (ap (λ (x : Kept). find (has_id m.session m.id) x.mail) c.self.view_is ∙ c.requires.pending) c.requires.free c.put_at-had.ensures.slots c.replace.ensures.new,
      c.put_at-had.ensures.mirrored,
    )

pub put_at-had-requires-clause-sent : goal.put_at-had-requires-clause-sent
put_at-had-requires-clause-sent c =
    let m = c.args.message.now in
    message_sent c.self.inside.slots m (has_id m.session m.id) c.self.inside.mail c.self.invariant.0.each_message (ap (λ (x : Kept). find (has_id m.session m.id) x.mail) c.self.view_is ∙ c.requires.pending)

pub put_at-had-requires-clause-slots : goal.put_at-had-requires-clause-slots
put_at-had-requires-clause-slots c = (c.self.inside.changes, c.self.invariant.0.each_slot)

pub replace-requires : goal.replace-requires
replace-requires c = mail_room c.self.inside.slots c.self.inside.mail c.args.message.now.id.0 c.self.invariant.0.each_message

pub put_at-had-requires-clause-room : goal.put_at-had-requires-clause-room
put_at-had-requires-clause-room c =
    let m = c.args.message.now in
    slot_room c.self.inside.slots c.self.inside.mail c.self.inside.changes c.self.inside.paid (slot_key m.session m.part) c.self.invariant.0
