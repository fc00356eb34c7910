use Rattle.std.proofs.Common.{◌≡◌, get_or, refl, None, Some}
use Rattle.std.specs.List.{position}
use Rattle.hx_replicas.specs.Layout.{has_part}
use Rattle.hx_replicas.proofs.Placing.{slot-found, slot-none}
use Rattle.hx_replicas.proofs.participants.Participant.initial_of.Goals as goal

pub returns-in-None : goal.returns-in-None
returns-in-None g c =
    let xs = c.self.inside.slots.items.items in
    let e : position (has_part c.args.part) xs ≡ None = (cc) in
    rw (← c.self.view_is, slot-none g.F.H.Handler xs c.args.part e) refl

pub returns-in-Some : goal.returns-in-Some
returns-in-Some g c =
    let xs = c.self.inside.slots.items.items in
    let i = c.in-Some.place in
    let x = c.index.result.now in
    let e : position (has_part c.args.part) xs ≡ Some i = (cc) in
    let at_i : x ≡ get_or xs i x = (cc) in
    rw (← c.self.view_is, slot-found g.F.H.Handler xs c.args.part i x e at_i) refl
