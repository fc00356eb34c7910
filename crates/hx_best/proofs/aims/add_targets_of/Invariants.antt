use Rattle.std.proofs.Common.{◌≡◌, ◌++◌}
use Rattle.std.specs.List.{flat_map}
use Rattle.hx_lists.specs.Lists.{numbers_below}
use Rattle.hx_best.specs.Targets.{targets_at}
use Rattle.hx_best.proofs.aims.add_targets_of.Given as goal

-- the targets of the parts so far
abbrev pub invariant-loop-index : goal.invariant-loop-index
invariant-loop-index l =
    l.found.items ≡ l.initial.found.items ++ flat_map (λ k. targets_at l.places.models l.places.view l.places.resource (record { resource = l.resource; index = k })) (numbers_below l.index)
