use Rattle.std.proofs.Common.{◌+◌, ◌*◌, ◌%◌, arith}
use Rattle.hx_lists.proofs.Numbers.{map-numbers_below_more}
use Rattle.hx_place.proofs.list_of.Goals as goal

pub loop-j-preserved : goal.loop-j-preserved
loop-j-preserved c =
    rw (c.in_ok-push.ensures.items, map-numbers_below_more (λ j. (c.args.part * c.min-k.result + j) % c.args.instances) c.loop-j.j, c.loop-j.invariant)
    (grind arith)
