use Rattle.std.proofs.Common.{◌≡◌, ◌-◌, ◌≤◌, take}
use Rattle.hx_parts.proofs.changes.same_front.Given as goal

-- the items so far are the same, and no more than the shorter list has
abbrev pub invariant-loop-from : goal.invariant-loop-from
invariant-loop-from g l = record {
  fits : l.from ≤ l.most;
  same : take l.from l.old ≡ take l.from l.new;
}

abbrev pub decreases-loop-from : goal.decreases-loop-from
decreases-loop-from g l = l.most - l.from

abbrev pub invariant-loop-place : goal.invariant-loop-place
invariant-loop-place g l = take l.place l.old ≡ take l.place l.new
