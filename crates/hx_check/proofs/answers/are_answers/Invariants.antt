use Rattle.std.proofs.Common.{◌≡◌, length, map, drop}
use Rattle.std.specs.Cmp.Lexicographic.{pointwise}
use Rattle.hx_script.specs.declared.log.LogMove.{LogMove}
use Rattle.hx_check.specs.Answers.{same_answer}
use Rattle.hx_check.proofs.answers.are_answers.Given as goal

abbrev pub invariant-loop-place : goal.invariant-loop-place
invariant-loop-place l = record {
  all : pointwise same_answer (map (λ (m : LogMove). m.answer) l.moves) l.placed ≡ pointwise same_answer (drop l.place (map (λ (m : LogMove). m.answer) l.moves)) (drop l.place l.placed);
  long : length l.moves ≡ length l.placed;
}
