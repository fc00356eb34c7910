use Rattle.std.proofs.Common.{◌≡◌, ◌++◌, take}
use Rattle.std.specs.Prelude.{map}
use Rattle.hx_cluster.specs.declared.planning.View.{View}
use Rattle.hx_pass.specs.Turns.{seen_of}
use Rattle.hx_pass.proofs.narrow.push_rows.Given as goal

-- the rows so far have their instances
abbrev pub invariant-loop-row : goal.invariant-loop-row
invariant-loop-row l = (view : View) → l.live ≡ view.live → l.seen.items ≡ l.initial.seen.items ++ map (seen_of view) (take l.row-index l.rows)
