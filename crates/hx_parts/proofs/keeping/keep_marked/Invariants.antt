use Rattle.std.proofs.Common.{◌≡◌, ◌-◌, ◌≤◌, length, take}
use Rattle.std.specs.Prelude.{filter}
use Rattle.hx_parts.specs.Marks.{is_marked}
use Rattle.hx_parts.proofs.keeping.keep_marked.Given as goal

-- those of the marked parts so far
abbrev pub invariant-loop-place : goal.invariant-loop-place
invariant-loop-place g l = record {
  fits : l.place ≤ length l.items;
  kept : l.list ≡ filter (λ x. is_marked l.marks (g.T.OfPart.part_of x)) (take l.place l.items);
}

abbrev pub decreases-loop-place : goal.decreases-loop-place
decreases-loop-place g l = length l.items - l.place
