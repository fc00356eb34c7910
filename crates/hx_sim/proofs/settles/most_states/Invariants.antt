use Rattle.std.proofs.Common.{◌≡◌, drop}
use Rattle.std.specs.Prelude.{max}
use Rattle.hx_worlds.specs.Settles.{most_states}
use Rattle.hx_sim.proofs.settles.most_states.Given as goal

-- the most so far, and of those that are left
abbrev pub invariant-loop-model : goal.invariant-loop-model
invariant-loop-model l = max l.most (most_states (drop l.model-index l.models)) ≡ most_states l.models
