use Rattle.std.proofs.Common.{◌<◌, ◌≤◌, length, get_or}
use Rattle.hx_cluster.specs.declared.planning.Target.{Target}
use Rattle.hx_best.proofs.listed.place_of.Given as goal

-- those from here on are on higher instances
abbrev pub invariant-loop-place : goal.invariant-loop-place
invariant-loop-place l = record {
  behind : l.first ≤ l.place;
  within : l.place ≤ length l.found;
  above : l.place < length l.found → (d : Target) → l.instance.0 < (get_or l.found l.place d).instance.0;
}

abbrev pub decreases-loop-place : goal.decreases-loop-place
decreases-loop-place l = l.place
