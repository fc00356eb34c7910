use Rattle.std.proofs.Common.{◌+◌, ◌-◌, ◌≤◌, length}
use Rattle.std.specs.Io.KnownBytes.{Consumes}
use Rattle.hx_io.proofs.whole.read_all.Given as goal

-- the bytes so far are those that the source gave, and not too many
abbrev pub invariant-loop-bytes : goal.invariant-loop-bytes
invariant-loop-bytes g l = record {
  taken : Consumes (g.S.Source.left l.fn.source) (g.S.Source.left l.source) l.bytes.items;
  within : length l.bytes.items ≤ l.limit;
  later : g.S.Source.faults l.fn.source ≤ g.S.Source.faults l.source;
}

-- each turn but the last adds to the bytes
abbrev pub decreases-loop-bytes : goal.decreases-loop-bytes
decreases-loop-bytes g l = l.limit + 1 - length l.bytes.items
