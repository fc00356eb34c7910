use Rattle.std.proofs.Common.{◌≡◌, fold}
use Rattle.hx_print.specs.Rolls.{roll_after}
use Rattle.hx_script.proofs.history.follow_all.Given as goal

-- the events that are left lead to the same roll
abbrev pub invariant-loop-told : goal.invariant-loop-told
invariant-loop-told l = fold roll_after l.roll l.told-iterator ≡ fold roll_after l.fn.roll l.fn.entries.items
