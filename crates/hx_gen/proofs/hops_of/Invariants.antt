use Rattle.std.proofs.Common.{◌≡◌, take}
use Rattle.hx_gen.proofs.hops_of.Given as goal

-- those of the models so far
abbrev pub invariant-loop-model : goal.invariant-loop-model
invariant-loop-model l = l.hops.items ≡ take l.model-index l.models
