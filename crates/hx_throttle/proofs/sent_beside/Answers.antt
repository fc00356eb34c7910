use Rattle.std.proofs.Common.{arith}
use Rattle.std.proofs.lemmas.Grind.{common_steps}
use Rattle.hx_throttle.proofs.Walk.{sifted_next}
use Rattle.hx_throttle.proofs.sent_beside.Goals as goal
use Rattle.hx_cluster.proofs.Absent.{no_candidate}

pub loop-candidate-preserved : goal.loop-candidate-preserved
loop-candidate-preserved c = λ view shown loads.
    let at = c.loop-candidate in
    let before = at.invariant view shown loads in
    let does = c.in_ok-send_if_allowed.ensures in
    sifted_next c.args.rules.now view c.args.accepted.now at.candidate-index _ _ _ _ no_candidate c.loop-candidate-test.true
    (does.chosen view shown before.loaded)
    (does.counted view shown before.loaded)
    before

pub returns : goal.returns
returns c = record {
  chosen = λ view shown loads. grind (arith, common_steps, c.loop-candidate.invariant view shown loads);
  counted = λ view shown loads. (c.loop-candidate.invariant view shown loads).loaded;
}
