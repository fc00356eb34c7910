use Rattle.std.proofs.Common.{◌≡◌, []}
use Rattle.hx_cluster.specs.declared.planning.View.{View}
use Rattle.hx_throttle.specs.Loads.{AreLoads}
use Rattle.hx_throttle.specs.Throttle.{loading}
use Rattle.hx_throttle.proofs.Walk.{IsSifted}
use Rattle.hx_throttle.proofs.sent_beside.Given as goal

abbrev pub invariant-loop-candidate : goal.invariant-loop-candidate
invariant-loop-candidate l = (view : View) → l.shown ≡ view.live → AreLoads l.rules (loading view []) l.fn.loads
    → IsSifted l.rules view l.accepted l.candidate-index l.sent l.loads
