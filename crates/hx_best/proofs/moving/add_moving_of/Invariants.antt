use Rattle.std.proofs.Common.{◌≡◌, ◌<◌, ◌≤◌, ◌-◌, true}
use Rattle.std.specs.Prelude.{List, ◌++◌, option_copied}
use Rattle.std.specs.List.{flat_map}
use Rattle.hx_lists.specs.Lists.{numbers_below}
use Rattle.hx_cluster.specs.declared.planning.Target.{Target}
use Rattle.hx_best.specs.Targets.{targets_at}
use Rattle.hx_best.specs.Still.{HasMoving, is_among, those_among}
use Rattle.hx_best.proofs.moving.add_moving_of.Given as goal

-- those of the parts before the next one that is gone over
abbrev pub invariant-loop-index : goal.invariant-loop-index
invariant-loop-index l = record {
  within : l.index ≤ l.count;
  among : l.index < l.count → is_among (option_copied l.marks) (record { resource = l.resource; index = l.index }) ≡ true;
  moving : (all : List Target) → HasMoving l.places.models l.places.view all l.initial.found.items
      → HasMoving l.places.models l.places.view
      (all
      ++ those_among (option_copied l.marks)
      (flat_map (λ k. targets_at l.places.models l.places.view l.places.resource (record { resource = l.resource; index = k })) (numbers_below l.index)))
      l.found.items;
}

abbrev pub decreases-loop-index : goal.decreases-loop-index
decreases-loop-index l = l.count - l.index
