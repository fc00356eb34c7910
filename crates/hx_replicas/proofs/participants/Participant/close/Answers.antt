use Rattle.hx_replicas.proofs.Wiping.{none_out-plain, bare-wiped}
use Rattle.hx_replicas.proofs.participants.Participant.close.Goals as goal

pub wipe_all-requires-clause-none_out : goal.wipe_all-requires-clause-none_out
wipe_all-requires-clause-none_out g c κs within = none_out-plain g.F.H.Handler c.self.inside.slots.items.items (rw (← c.self.view_is) at c.requires)

pub free-requires : goal.free-requires
free-requires g c = rw c.wipe_all.ensures.slots (bare-wiped c.self.inside.slots.items.items)
