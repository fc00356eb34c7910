use Rattle.std.proofs.Common.{◌≡◌, ◌+◌, ◌-◌, ◌≤◌, ◌++◌, length, replicate}
use Rattle.hx_check.proofs.marks.set_mark.Given as goal

abbrev pub invariant-loop-made : goal.invariant-loop-made
invariant-loop-made l = record {
  items : l.marks.items ≡ l.initial.marks.items ++ replicate (l._made - length l.initial.marks.items) 0;
  near : l._made ≤ length l.initial.marks.items + (l.place + 1 - length l.initial.marks.items);
}
