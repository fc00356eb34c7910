use Rattle.std.proofs.Common.{◌≡◌, take}
use Rattle.std.specs.List.{flat_map}
use Rattle.hx_model.specs.Model.{states_of}
use Rattle.hx_hops.specs.Table.{ways_to}
use Rattle.hx_hops.proofs.Hops.build.Given as goal

abbrev pub invariant-loop-goal : goal.invariant-loop-goal
invariant-loop-goal l = l.ways.items ≡ flat_map (ways_to l.model) (take l.goal-index (states_of l.model))
