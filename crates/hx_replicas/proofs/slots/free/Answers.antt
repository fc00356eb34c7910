use Rattle.std.proofs.lemmas.List.Elements.{All-pop}
use Rattle.hx_replicas.specs.Layout.{IsBare}
use Rattle.hx_replicas.proofs.slots.free.Goals as goal

pub loop-slot-preserved : goal.loop-slot-preserved
loop-slot-preserved g c = (All-pop IsBare _ _ _ c.pop.ensures.items c.loop-slot.invariant).0
