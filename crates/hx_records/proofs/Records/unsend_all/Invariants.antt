use Rattle.std.proofs.Common.{◌≤◌, length, take}
use Rattle.hx_cluster.specs.declared.state.Cluster.{Cluster}
use Rattle.hx_records.specs.Records.{IsPlacedFrom}
use Rattle.hx_records.proofs.Records.unsend_all.Given as goal

-- down to the first
abbrev pub decreases-loop-left : goal.decreases-loop-left
decreases-loop-left l = l.left

-- what was placed last is taken back, down to so many
abbrev pub invariant-loop-left : goal.invariant-loop-left
invariant-loop-left l = record {
  few : l.left ≤ length l.placed;
  back : (c : Cluster) → IsPlacedFrom c l.proposals l.placed l.fn.self → IsPlacedFrom c l.proposals (take l.left l.placed) l.self;
}
