use Rattle.std.proofs.Common.{◌≡◌, List, drop}
use Rattle.hx_cluster.specs.declared.planning.View.{View}
use Rattle.hx_cluster.specs.declared.planning.Candidate.{Candidate}
use Rattle.hx_throttle.specs.Loads.{AreLoads, keyed_of, transition_of}
use Rattle.hx_throttle.specs.Throttle.{loading, held_by}
use Rattle.hx_throttle.proofs.loads.first_holding.Given as goal

-- no rule so far holds the candidate back
abbrev pub invariant-loop-place : goal.invariant-loop-place
invariant-loop-place l = (view : View) (sent : List Candidate) (candidate : Candidate) → l.keyed ≡ keyed_of view.live (transition_of candidate) → AreLoads l.rules (loading view sent) l.loads
    → held_by (drop l.place l.rules) l.place view sent candidate ≡ held_by l.rules 0 view sent candidate
