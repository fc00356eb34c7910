use Rattle.std.proofs.Common.{◌≡◌, ◌+◌, ◌-◌, length}
use Rattle.hx_ids.specs.declared.InstanceId.{InstanceId}
use Rattle.hx_best.specs.Lookups.{cell_of}
use Rattle.hx_best.proofs.tables.fill.Given as goal

-- what was there still stands
abbrev pub invariant-loop-table : goal.invariant-loop-table
invariant-loop-table g l = (i : InstanceId) → cell_of l.table.items i ≡ cell_of l.initial.table.items i

abbrev pub decreases-loop-table : goal.decreases-loop-table
decreases-loop-table g l = l.place + 1 - length l.table.items
