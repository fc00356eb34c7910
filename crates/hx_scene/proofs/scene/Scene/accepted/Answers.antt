use Rattle.std.proofs.Common.{◌≡◌, sym, subst, arith, IfOk}
use Rattle.hx_replicas.specs.Participants.{Participant, accepted_all}
use Rattle.hx_scene.proofs.Standing.{has_staff, participant_is}
use Rattle.hx_scene.proofs.scene.Scene.accepted.Goals as goal

pub index-requires : goal.index-requires
index-requires g c =
    let lt = has_staff _ c.self.invariant.0 c.args.instance (rw (← c.self.view_is) at c.requires) in
    omega (arith, lt, c.self.inside.participants.ok.0)

pub returns : goal.returns
returns g c =
    let lt = has_staff _ c.self.invariant.0 c.args.instance (rw (← c.self.view_is) at c.requires) in
    rw (← c.self.view_is)
    (subst (λ (w : Participant). IfOk c.accepted.result (λ messages. messages.items ≡ accepted_all w))
    (sym (participant_is c.self.inside.participants.items c.args.instance c.index.result.now lt c.index.ensures)) c.accepted.ensures)
