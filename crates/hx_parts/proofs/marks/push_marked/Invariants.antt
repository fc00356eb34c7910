use Rattle.std.proofs.Common.{◌≡◌, ◌<◌, ◌-◌, ◌++◌, drop, false, true, length, slice_index_or}
use Rattle.hx_parts.specs.Marks.{marked_in}
use Rattle.hx_parts.proofs.marks.push_marked.Given as goal

-- with those among the cells that are left the marked parts are all
abbrev pub invariant-loop-place : goal.invariant-loop-place
invariant-loop-place l = record {
  found : l.place < length l.cells → slice_index_or l.cells l.place false ≡ true;
  all : l.parts.items ++ marked_in l.resource l.place (drop l.place l.cells) ≡ l.fn.parts.items ++ marked_in l.resource 0 l.cells;
}

abbrev pub decreases-loop-place : goal.decreases-loop-place
decreases-loop-place l = length l.cells - l.place
