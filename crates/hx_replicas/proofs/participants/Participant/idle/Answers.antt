use Rattle.hx_replicas.proofs.Placing.{all-plain}
use Rattle.hx_replicas.proofs.participants.Participant.idle.Goals as goal

pub returns : goal.returns
returns g c = rw (c.all_rest.ensures, c.deref.ensures.value, ← c.self.view_is) (all-plain g.F.H.Handler c.self.inside.slots.items.items)
