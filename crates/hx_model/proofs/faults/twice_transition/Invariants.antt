use Rattle.std.proofs.Common.{◌≡◌, take, drop}
use Rattle.hx_lists.specs.First.{answer_behind}
use Rattle.hx_model.specs.Model.{is_between}
use Rattle.hx_model.specs.Faults.{twice_at, twice_place}
use Rattle.hx_model.proofs.Pairs.{ArePairs}
use Rattle.hx_model.proofs.faults.twice_transition.Given as goal

-- the answer stands behind the transitions so far, which are distinct
abbrev pub invariant-loop-place : goal.invariant-loop-place
invariant-loop-place l = record {
  told : answer_behind (twice_at (λ t b. is_between t.0 t.1 b)) (take l.place l.transitions) (drop l.place l.transitions) ≡ twice_place (λ t b. is_between t.0 t.1 b) l.transitions;
  pairs : ArePairs (take l.place l.transitions);
}
