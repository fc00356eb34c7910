use Rattle.std.proofs.Common.{◌≡◌, map}
use Rattle.std.specs.Prelude.{take}
use Rattle.hx_model.specs.Model.{states_of}
use Rattle.hx_formed.proofs.formed.states_of.Given as goal

-- those of the models so far
abbrev pub invariant-loop-model : goal.invariant-loop-model
invariant-loop-model l = l.states ≡ map states_of (take l.model-index l.models)
