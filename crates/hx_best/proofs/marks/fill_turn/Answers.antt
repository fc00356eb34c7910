use Rattle.std.proofs.Common.{◌∙◌, ◌+◌, ◌*◌, ◌%◌, ◌<◌, length, arith}
use Rattle.hx_best.proofs.Marking.{turn_more}
use Rattle.hx_best.proofs.marks.fill_turn.Goals as goal

pub loop-turn-preserved : goal.loop-turn-preserved
loop-turn-preserved c =
    let some : 0 < length c.args.instances.now = omega (arith, c.min-taken.ensures, c.loop-turn-test.true) in
    c.in_ok-push.ensures.items ∙ turn_more c.args.instances.now c.loop-turn.list.items (λ j. (c.args.part * c.min-taken.result + j) % length c.args.instances.now) c.loop-turn.turn (record { 0 = 0 }) (omega arith) c.loop-turn.invariant
