use Rattle.std.proofs.Common.{◌≡◌, ◌-◌, ◌<◌, ◌≤◌, true, length}
use Rattle.std.specs.List.{AllWithin}
use Rattle.hx_cluster.specs.Ends.{part_before}
use Rattle.hx_parts.proofs.splicing.front.Given as goal

-- the items so far are of parts before it
abbrev pub invariant-loop-step : goal.invariant-loop-step
invariant-loop-step g l =
    record {
      fits : l.from ≤ length l.items;
      some : 0 < l.step;
      front : AllWithin (λ y. part_before (g.T.OfPart.part_of y) l.part ≡ true) l.items 0 l.from;
    }

abbrev pub decreases-loop-step : goal.decreases-loop-step
decreases-loop-step g l = length l.items - l.from
