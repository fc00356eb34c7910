use Rattle.hx_replicas.specs.Layout.{IsBare}
use Rattle.std.specs.List.{All}
use Rattle.hx_replicas.proofs.slots.free.Given as goal

abbrev pub invariant-loop-slot : goal.invariant-loop-slot
invariant-loop-slot g l = All IsBare l.slots.items

abbrev pub decreases-loop-slot : goal.decreases-loop-slot
decreases-loop-slot g l = goal.left-loop-slot g l
