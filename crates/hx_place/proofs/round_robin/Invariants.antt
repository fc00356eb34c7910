use Rattle.std.proofs.Common.{◌≡◌, map}
use Rattle.hx_lists.specs.Lists.{numbers_below}
use Rattle.hx_place.specs.RoundRobin.{round_robin_list}
use Rattle.hx_place.proofs.round_robin.Given as goal

-- the lists of the parts up to here
abbrev pub invariant-loop-part : goal.invariant-loop-part
invariant-loop-part l = map (λ list. list.items) l.all.items ≡ map (round_robin_list l.instances l.replicas) (numbers_below l.part)
