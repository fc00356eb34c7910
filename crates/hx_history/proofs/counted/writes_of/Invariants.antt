use Rattle.std.proofs.Common.{◌≡◌, ◌+◌, ◌≤◌, length}
use Rattle.hx_lists.specs.Lists.{count}
use Rattle.hx_history.specs.Counted.{is_write_of}
use Rattle.hx_history.proofs.counted.writes_of.Given as goal

abbrev pub invariant-loop-rest : goal.invariant-loop-rest
invariant-loop-rest l = record {
  found : l.found + count (is_write_of l.outcome) l.rest ≡ count (is_write_of l.outcome) l.kinds;
  few : l.found + length l.rest ≤ length l.kinds;
}

abbrev pub decreases-loop-rest : goal.decreases-loop-rest
decreases-loop-rest l = length l.rest
