use Rattle.std.proofs.Common.{◌≡◌, refl, None}
use Rattle.std.specs.List.{position}
use Rattle.hx_replicas.specs.Layout.{has_part}
use Rattle.hx_replicas.proofs.Placing.{slot-found, slot-none}
use Rattle.hx_replicas.proofs.participants.Participant.slot.Goals as goal

pub returns-in-None-clause-state : goal.returns-in-None-clause-state
returns-in-None-clause-state g c =
    let xs = c.self.inside.slots.items.items in
    let e : position (has_part c.args.part) xs ≡ None = (cc) in
    rw (← c.self.view_is, slot-none g.F.H.Handler xs c.args.part e) refl

pub returns-in-None-clause-last : goal.returns-in-None-clause-last
returns-in-None-clause-last g c =
    let xs = c.self.inside.slots.items.items in
    let e : position (has_part c.args.part) xs ≡ None = (cc) in
    rw (← c.self.view_is, slot-none g.F.H.Handler xs c.args.part e) refl

pub returns-in-Some : goal.returns-in-Some
returns-in-Some g c =
    let found = slot-found g.F.H.Handler c.self.inside.slots.items.items c.args.part c.in-Some.place c.index-slot.result.now (cc) (cc) in
    record { state = rw (← c.self.view_is, found) (cc); last = rw (← c.self.view_is, found) refl }
