use Rattle.std.specs.Prelude.{List, ◌++◌, option_copied}
use Rattle.std.specs.List.{flat_map}
use Rattle.hx_lists.specs.Lists.{numbers_below}
use Rattle.hx_cluster.specs.declared.planning.Target.{Target}
use Rattle.hx_best.specs.Targets.{targets}
use Rattle.hx_best.specs.Still.{HasMoving, those_among}
use Rattle.hx_best.proofs.moving.add_moving_among.Given as goal

-- those of the resources so far
abbrev pub invariant-loop-number : goal.invariant-loop-number
invariant-loop-number l = (all : List Target) → HasMoving l.models l.index all l.initial.found.items
    → HasMoving l.models l.index (all ++ those_among (option_copied l.marks) (flat_map (λ n. targets l.models l.index (record { 0 = n })) (numbers_below l.number))) l.found.items
