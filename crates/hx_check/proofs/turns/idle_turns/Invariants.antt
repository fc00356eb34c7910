use Rattle.std.proofs.Common.{◌≡◌, replicate}
use Rattle.hx_pass.specs.Turns.{idle_turn}
use Rattle.hx_check.proofs.turns.idle_turns.Given as goal

abbrev pub invariant-loop-made : goal.invariant-loop-made
invariant-loop-made l = l.turns.items ≡ replicate l._made idle_turn
