use Rattle.std.proofs.Common.{refl}
use Rattle.hx_script.specs.declared.log.LogMove.{LogMove}
use Rattle.hx_check.specs.Answers.{same_answer}
use Rattle.hx_check.proofs.Pairs.{left_differs, left_on}
use Rattle.hx_check.proofs.answers.are_answers.Goals as goal

pub returns-then-not-same_answer : goal.returns-then-not-same_answer
returns-then-not-same_answer c = left_differs same_answer (λ (m : LogMove). m.answer) c.args.moves.now c.args.placed.now c.loop-place.place _ _ _ c.same_answer.result _ c.loop-place.invariant.all c.loop-place.invariant.long c.loop-place-test.true refl c.same_answer.ensures c.if-not-same_answer.true

pub loop-place-preserved : goal.loop-place-preserved
loop-place-preserved c = record {
  all = left_on same_answer (λ (m : LogMove). m.answer) c.args.moves.now c.args.placed.now c.loop-place.place _ _ _ c.same_answer.result _ c.loop-place.invariant.all c.loop-place.invariant.long c.loop-place-test.true refl c.same_answer.ensures c.if-not-same_answer.false;
  long = c.loop-place.invariant.long;
}
