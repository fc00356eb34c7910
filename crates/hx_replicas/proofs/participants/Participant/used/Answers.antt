use Rattle.hx_replicas.proofs.Placing.{count-plain}
use Rattle.hx_replicas.proofs.participants.Participant.used.Goals as goal

pub returns : goal.returns
returns g c = rw (c.count_used.ensures, c.deref.ensures.value, ← c.self.view_is) (count-plain g.F.H.Handler c.self.inside.slots.items.items)
