use Rattle.std.proofs.Common.{◌≡◌, length, map, drop}
use Rattle.std.specs.Cmp.Lexicographic.{pointwise}
use Rattle.hx_check.specs.Answers.{proposal_of}
use Rattle.hx_check.specs.Judge.{same_proposal}
use Rattle.hx_check.proofs.answers.are_planned.Given as goal

abbrev pub invariant-loop-place : goal.invariant-loop-place
invariant-loop-place l = record {
  all : pointwise same_proposal (map proposal_of l.moves) l.planned ≡ pointwise same_proposal (drop l.place (map proposal_of l.moves)) (drop l.place l.planned);
  long : length l.moves ≡ length l.planned;
}
