use Rattle.std.proofs.Common.{◌≡◌, ◌++◌, take}
use Rattle.hx_sim.specs.Viewing.{seen_of}
use Rattle.hx_sim.proofs.rows.push_seen.Given as goal

abbrev pub invariant-loop-row : goal.invariant-loop-row
invariant-loop-row l = l.seen.items ≡ l.fn.seen.items ++ seen_of l.instance (take l.row-index l.rows)
