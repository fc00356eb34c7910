use Rattle.std.proofs.Common.{◌≡◌, true, not}
use Rattle.std.specs.List.{AllWithin}
use Rattle.hx_cluster.specs.Ends.{part_before}
use Rattle.hx_parts.proofs.splicing.run.Given as goal

-- the items so far are of no part behind it
abbrev pub invariant-loop-place : goal.invariant-loop-place
invariant-loop-place g l = AllWithin (λ y. not (part_before l.part (g.T.OfPart.part_of y)) ≡ true) l.items 0 l.place
