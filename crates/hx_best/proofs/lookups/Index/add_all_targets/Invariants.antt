use Rattle.std.proofs.Common.{◌≡◌, ◌++◌}
use Rattle.std.specs.List.{flat_map}
use Rattle.hx_lists.specs.Lists.{numbers_below}
use Rattle.hx_best.specs.Targets.{targets}
use Rattle.hx_best.proofs.lookups.Index.add_all_targets.Given as goal

-- the targets of the resources so far
abbrev pub invariant-loop-number : goal.invariant-loop-number
invariant-loop-number l = l.found.items ≡ l.initial.found.items ++ flat_map (λ n. targets l.models l.self (record { 0 = n })) (numbers_below l.number)
