use Rattle.std.proofs.Common.{◌≡◌, ◌≤◌, take}
use Rattle.hx_lists.specs.Lists.{count}
use Rattle.hx_history.specs.Counted.{is_write_of}
use Rattle.hx_history.proofs.counted.writes_of_few.Given as goal

abbrev pub invariant-loop-kind : goal.invariant-loop-kind
invariant-loop-kind l = record {
  found : l.found ≡ count (is_write_of l.outcome) (take l.kind-index l.kinds);
  few : l.found ≤ l.kind-index;
}
