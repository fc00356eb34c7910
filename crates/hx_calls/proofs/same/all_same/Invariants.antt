use Rattle.std.proofs.Common.{◌≡◌, length}
use Rattle.std.specs.Prelude.{◌↔◌}
use Rattle.hx_calls.proofs.same.all_same.Given as goal

-- what is left has one length, and the lists are the same if it is
abbrev pub invariant-loop-items : goal.invariant-loop-items
invariant-loop-items g l = (length l.items ≡ length l.others) × ((l.items ≡ l.others) ↔ (l.fn.items ≡ l.fn.others))

abbrev pub decreases-loop-items : goal.decreases-loop-items
decreases-loop-items g l = length l.items
