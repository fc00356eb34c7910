use Rattle.std.proofs.Common.{◌≡◌, take}
use Rattle.std.specs.Prelude.{filter, map, not}
use Rattle.hx_cluster.specs.Steps.{is_drained}
use Rattle.hx_best.proofs.lookups.open_of.Given as goal

-- the instances so far
abbrev pub invariant-loop-shown : goal.invariant-loop-shown
invariant-loop-shown l = l.open.items ≡ filter (λ i. not (is_drained l.drained i)) (map (λ e. e.1) (take l.shown-index l.live))
