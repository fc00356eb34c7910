use Rattle.std.proofs.Common.{◌≡◌, ◌==◌, take, drop}
use Rattle.hx_lists.specs.First.{answer_behind}
use Rattle.hx_model.specs.Faults.{twice_at, twice_place}
use Rattle.hx_model.proofs.faults.twice_state.Given as goal

abbrev pub invariant-loop-place : goal.invariant-loop-place
invariant-loop-place l = answer_behind (twice_at (λ p b. b.0.0 == p.0.0)) (take l.place l.states) (drop l.place l.states) ≡ twice_place (λ p b. b.0.0 == p.0.0) l.states
