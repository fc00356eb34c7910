use Rattle.std.proofs.Common.{◌≡◌, ◌+◌, ◌==◌, [], ◌∷◌, find, drop}
use Rattle.std.specs.Prelude.{if◌then◌else◌}
use Rattle.hx_hops.specs.Hops.{steps_from, dist}
use Rattle.hx_hops.proofs.Steps.{steps_in}
use Rattle.hx_hops.proofs.nearer.Given as goal

-- none of the transitions so far is taken
abbrev pub invariant-loop-step : goal.invariant-loop-step
invariant-loop-step l = find (λ t. dist l.model t l.fn.goal + 1 == dist l.model l.from l.fn.goal) (steps_in (drop l.step-index l.model.transitions) l.from (if l.from.0 == 0 then l.model.initial ∷ [] else [])) ≡ find (λ t. dist l.model t l.fn.goal + 1 == dist l.model l.from l.fn.goal) (steps_from l.model l.from)
