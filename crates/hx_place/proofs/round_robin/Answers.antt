use Rattle.std.proofs.Common.{refl}
use Rattle.std.proofs.lemmas.List.{map-append}
use Rattle.hx_place.specs.RoundRobin.{round_robin_list}
use Rattle.hx_lists.proofs.Numbers.{map-numbers_below_more}
use Rattle.hx_place.proofs.round_robin.Goals as goal

pub loop-part-preserved : goal.loop-part-preserved
loop-part-preserved c =
    rw (c.in_ok-push.ensures.items, map-append, map-numbers_below_more (round_robin_list c.args.instances c.args.replicas) c.loop-part.part, c.loop-part.invariant, c.in_ok-list_of.ensures) refl
