use Rattle.std.proofs.Common.{◌≡◌, map}
use Rattle.std.specs.Prelude.{take}
use Rattle.hx_model.specs.Model.{states_of}
use Rattle.hx_formed.proofs.formed.have_states.Given as goal

-- the models so far have these states
abbrev pub invariant-loop-place : goal.invariant-loop-place
invariant-loop-place l = take l.place l.states ≡ map states_of (take l.place l.models)
