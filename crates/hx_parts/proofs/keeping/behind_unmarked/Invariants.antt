use Rattle.std.proofs.Common.{◌≡◌, ◌-◌, ◌≤◌, length, take}
use Rattle.std.specs.Prelude.{filter}
use Rattle.hx_parts.specs.Marks.{is_marked}
use Rattle.hx_parts.proofs.keeping.behind_unmarked.Given as goal

-- none of the items so far is of a marked part
abbrev pub invariant-loop-place : goal.invariant-loop-place
invariant-loop-place g l = record {
  above : l.from ≤ l.place;
  fits : l.place ≤ length l.items;
  none : filter (λ x. is_marked l.marks (g.T.OfPart.part_of x)) (take l.place l.items) ≡ filter (λ x. is_marked l.marks (g.T.OfPart.part_of x)) (take l.from l.items);
}

abbrev pub decreases-loop-place : goal.decreases-loop-place
decreases-loop-place g l = length l.items - l.place

abbrev pub invariant-loop-place-2 : goal.invariant-loop-place-2
invariant-loop-place-2 g l = record {
  above : l.from ≤ l.place;
  fits : l.place ≤ length l.items;
  none : filter (λ x. is_marked l.marks (g.T.OfPart.part_of x)) (take l.place l.items) ≡ filter (λ x. is_marked l.marks (g.T.OfPart.part_of x)) (take l.from l.items);
}

abbrev pub decreases-loop-place-2 : goal.decreases-loop-place-2
decreases-loop-place-2 g l = length l.items - l.place
