use Rattle.std.proofs.Common.{◌≡◌, length, map, drop}
use Rattle.std.specs.Cmp.Lexicographic.{pointwise}
use Rattle.hx_script.specs.LogEntries.{ended_told}
use Rattle.hx_check.specs.Answers.{same_ended}
use Rattle.hx_check.proofs.answers.are_ended.Given as goal

abbrev pub invariant-loop-place : goal.invariant-loop-place
invariant-loop-place l = record {
  all : pointwise same_ended l.told (map (ended_told l.live) l.ended) ≡ pointwise same_ended (drop l.place l.told) (drop l.place (map (ended_told l.live) l.ended));
  long : length l.told ≡ length l.ended;
}
