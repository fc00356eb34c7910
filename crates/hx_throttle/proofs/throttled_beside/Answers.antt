use Rattle.std.proofs.Common.{arith}
use Rattle.std.proofs.lemmas.Grind.{common_steps}
use Rattle.hx_throttle.proofs.Walk.{walked_next}
use Rattle.hx_throttle.proofs.throttled_beside.Goals as goal
use Rattle.hx_cluster.proofs.Absent.{no_candidate}

pub loop-candidate-preserved : goal.loop-candidate-preserved
loop-candidate-preserved c = λ view shown loads.
    let at = c.loop-candidate in
    let before = at.invariant view shown loads in
    let does = c.in_ok-send_or_hold.ensures in
    walked_next c.args.rules.now view c.args.accepted.now at.candidate-index _ _ _ _ _ _ no_candidate c.loop-candidate-test.true
    (does.chosen view shown before.sifted.loaded)
    (does.holding view shown before.sifted.loaded)
    (does.counted view shown before.sifted.loaded)
    before

pub returns : goal.returns
returns c = record {
  chosen = λ view shown loads. grind (arith, common_steps, c.loop-candidate.invariant view shown loads);
  counted = λ view shown loads. (c.loop-candidate.invariant view shown loads).sifted.loaded;
}
