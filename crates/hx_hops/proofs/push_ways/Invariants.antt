use Rattle.std.proofs.Common.{◌≡◌, ◌++◌, map, take}
use Rattle.hx_model.specs.Model.{states_of}
use Rattle.hx_hops.specs.Table.{way_of}
use Rattle.hx_hops.proofs.push_ways.Given as goal

abbrev pub invariant-loop-from : goal.invariant-loop-from
invariant-loop-from l = l.ways.items ≡ l.fn.ways.items ++ map (λ s. way_of l.model s l.goal) (take l.from-index (states_of l.model))
