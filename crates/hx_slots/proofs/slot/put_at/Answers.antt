use Rattle.std.specs.Prelude.{Some}
use Rattle.hx_slots.specs.Slots.{slot_with}
use Rattle.hx_slots.proofs.Mirroring.{can_be_put, mirrored_put}
use Rattle.hx_slots.proofs.slot.put_at.Goals as goal

pub put-requires : goal.put-requires
put-requires c =
    let m = c.args.message.now in
    can_be_put c.in-Some.key m.session m.part c.in-Some-replace.before c.args.slots.now c.args.index.now c.is_some.result c.requires.slots c.replace.ensures.ordered c.requires.mirrored c.requires.placed c.in-Some.ensures.1 c.in-Some-replace.ensures.value c.is_some.ensures

pub returns-clause-mirrored : goal.returns-clause-mirrored
returns-clause-mirrored c =
    let m = c.args.message.now in
    let put = slot_with m.session m.part c.if-eq.put (Some m.id) in
    mirrored_put c.in-Some.key m.session m.part c.in-Some-replace.before put c.args.slots.now c.replace.new.self c.args.index.now c.put.new.self c.is_some.result c.row.result c.requires.slots c.replace.ensures.ordered c.requires.mirrored c.requires.placed
    c.in-Some.ensures.1 c.in-Some-replace.ensures.value c.is_some.ensures c.row.ensures c.replace.ensures.new c.put.ensures
