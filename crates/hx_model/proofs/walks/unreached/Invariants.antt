use Rattle.std.proofs.Common.{◌≡◌, not, map, find, drop}
use Rattle.hx_model.specs.Model.{states_of}
use Rattle.hx_model.specs.Walks.{reaches}
use Rattle.hx_model.proofs.walks.unreached.Given as goal

abbrev pub invariant-loop-entry : goal.invariant-loop-entry
invariant-loop-entry l = find (λ s. not (reaches l.parts l.parts.initial s)) (map (λ p. p.0) (drop l.entry-index l.parts.states)) ≡ find (λ s. not (reaches l.parts l.parts.initial s)) (states_of l.parts)
