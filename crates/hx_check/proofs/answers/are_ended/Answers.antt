use Rattle.hx_script.specs.LogEntries.{ended_told}
use Rattle.hx_check.specs.Answers.{same_ended}
use Rattle.hx_check.proofs.Pairs.{right_differs, right_on}
use Rattle.hx_check.proofs.answers.are_ended.Goals as goal

pub returns-then-not-is_ended : goal.returns-then-not-is_ended
returns-then-not-is_ended c = right_differs same_ended c.args.told.now (ended_told c.args.live.now) c.args.ended.now c.loop-place.place _ _ c.is_ended.result _ c.loop-place.invariant.all c.loop-place.invariant.long c.loop-place-test.true c.is_ended.ensures c.if-not-is_ended.true

pub loop-place-preserved : goal.loop-place-preserved
loop-place-preserved c = record {
  all = right_on same_ended c.args.told.now (ended_told c.args.live.now) c.args.ended.now c.loop-place.place _ _ c.is_ended.result _ c.loop-place.invariant.all c.loop-place.invariant.long c.loop-place-test.true c.is_ended.ensures c.if-not-is_ended.false;
  long = c.loop-place.invariant.long;
}
