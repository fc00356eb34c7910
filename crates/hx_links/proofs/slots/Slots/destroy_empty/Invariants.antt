use Rattle.std.proofs.Common.{◌≡◌, map, vec_len}
use Rattle.hx_links.specs.Slots.{held}
use Rattle.hx_links.specs.Layout.{link_of}
use Rattle.hx_links.proofs.slots.Slots.destroy_empty.Given as goal

abbrev pub invariant-loop-slot : goal.invariant-loop-slot
invariant-loop-slot g l = held (map link_of l.slots.items) ≡ 0

abbrev pub decreases-loop-slot : goal.decreases-loop-slot
decreases-loop-slot g l = vec_len l.slots
