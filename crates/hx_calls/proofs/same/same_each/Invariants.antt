use Rattle.std.proofs.Common.{◌≡◌}
use Rattle.std.specs.Prelude.{take}
use Rattle.hx_calls.proofs.same.same_each.Given as goal

-- the items so far are the same
abbrev pub invariant-loop-place : goal.invariant-loop-place
invariant-loop-place g l = take l.place l.items ≡ take l.place l.others
