use Rattle.std.proofs.Common.{◌≡◌, ◌≤◌, length, drop}
use Rattle.hx_ids.specs.declared.InstanceId.{InstanceId}
use Rattle.hx_cluster.specs.Ends.{session_in}
use Rattle.hx_best.specs.Lookups.{cell_of}
use Rattle.hx_best.proofs.lookups.sessions_of.Given as goal

-- the sessions from a place on
abbrev pub invariant-loop-left : goal.invariant-loop-left
invariant-loop-left l = record {
  within : l.left ≤ length l.live;
  filled : (i : InstanceId) → cell_of l.sessions.items i ≡ session_in (drop l.left l.live) i;
}

abbrev pub decreases-loop-left : goal.decreases-loop-left
decreases-loop-left l = l.left
