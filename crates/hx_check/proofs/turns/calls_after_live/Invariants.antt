use Rattle.std.proofs.Common.{◌≡◌, ◌++◌, map, take}
use Rattle.hx_pass.specs.Turns as turns
use Rattle.hx_check.specs.Judging.{call_told}
use Rattle.hx_check.proofs.turns.calls_after_live.Given as goal

abbrev pub invariant-loop-shown : goal.invariant-loop-shown
invariant-loop-shown l = map call_told l.calls.items ≡ map (λ e. turns.Mail e.0) (take l.shown-index l.live)

abbrev pub invariant-loop-shown-2 : goal.invariant-loop-shown-2
invariant-loop-shown-2 l = map call_told l.calls.items ≡ map (λ e. turns.Mail e.0) l.live ++ map (λ e. turns.States e.0) (take l.shown-index l.live)
