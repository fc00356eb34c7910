use Rattle.std.proofs.Common.{refl}
use Rattle.std.specs.Prelude.{Some}
use Rattle.hx_slots.specs.Slots.{slot_with}
use Rattle.hx_slots.proofs.Mirroring.{mirrored_sent}
use Rattle.hx_slots.proofs.slot.note_sent.Goals as goal

pub returns-clause-mirrored : goal.returns-clause-mirrored
returns-clause-mirrored c =
    let slot = c.in-Some-get.slot.now in
    mirrored_sent c.in-Some.key c.args.session c.args.part slot (slot_with c.args.session c.args.part slot.state (Some c.args.id)) c.args.slots.now c.replace.new.self c.args.index.now c.requires.slots c.get.ensures.ordered c.requires.mirrored
    c.in-Some.ensures.0 c.in-Some.ensures.1 c.in-Some-get.ensures.value refl refl refl c.replace.ensures.new
