use Rattle.std.proofs.Common.{sym, ◌∙◌}
use Rattle.hx_replicas.proofs.Placing.{place-plain}
use Rattle.hx_replicas.proofs.Handing.{accepted-found}
use Rattle.hx_replicas.proofs.participants.Participant.place_for.Goals as goal

pub unreachable-requires : goal.unreachable-requires
unreachable-requires g c = accepted-found g.F.H.Handler c.self.inside.slots.items.items c.args.message.now (rw (← c.self.view_is) at c.requires) (cc)

pub returns : goal.returns
returns g c =
    rw (← c.self.view_is) (sym (place-plain g.F.H.Handler c.self.inside.slots.items.items c.args.message.now.part) ∙ (cc))
