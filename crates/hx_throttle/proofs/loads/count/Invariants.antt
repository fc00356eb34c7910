use Rattle.std.proofs.Common.{◌≡◌, ℕ, ◌+◌}
use Rattle.std.specs.Prelude.{◌&&◌, nat_lt, slice_get, Some, if◌then◌else◌}
use Rattle.hx_throttle.specs.Table.{load_at}
use Rattle.hx_cluster.specs.declared.description.Rule.{Rule}
use Rattle.hx_throttle.specs.Loads.{counts_under}
use Rattle.hx_throttle.proofs.loads.count.Given as goal

-- the rules so far have counted it
abbrev pub invariant-loop-place : goal.invariant-loop-place
invariant-loop-place l = (n : ℕ) (r : Rule) (key : ℕ) → slice_get l.rules n ≡ Some r
    → load_at l.loads n key ≡ load_at l.fn.loads n key + (if nat_lt n l.place && counts_under r key l.keyed then 1 else 0)
