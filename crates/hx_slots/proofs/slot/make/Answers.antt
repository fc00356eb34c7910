use Rattle.hx_slots.proofs.Mirroring.{mirrored_made}
use Rattle.hx_slots.proofs.slot.make.Goals as goal

pub returns-in-Ok-clause-mirrored : goal.returns-in-Ok-clause-mirrored
returns-in-Ok-clause-mirrored c = mirrored_made c.args.key c.args.slot c.args.slots.now c.create.new.self c.note_slot.new.index c.requires.bare c.in_ok-note_slot.ensures.ok c.in-Ok.ensures.ok
