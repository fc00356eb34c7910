use Rattle.std.proofs.Common.{◌≡◌, ◌+◌, drop}
use Rattle.hx_worlds.specs.Settles.{all_parts}
use Rattle.hx_sim.proofs.settles.all_parts.Given as goal

-- those so far, and those that are left
abbrev pub invariant-loop-resource : goal.invariant-loop-resource
invariant-loop-resource l = l.parts + all_parts (drop l.resource-index l.resources) ≡ all_parts l.resources
