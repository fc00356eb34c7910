use Rattle.std.proofs.Common.{◌≡◌, ◌++◌, drop}
use Rattle.hx_parts.specs.Marks.{marked_from}
use Rattle.hx_parts.proofs.marks.Marks.parts.Given as goal

-- with those of the resources that are left the parts are all
abbrev pub invariant-loop-place : goal.invariant-loop-place
invariant-loop-place l = l.parts.items ++ marked_from l.place (drop l.place l.cells) ≡ marked_from 0 l.cells
