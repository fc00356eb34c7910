use Rattle.std.proofs.Common.{◌≡◌, Some, drop}
use Rattle.hx_formed.specs.Reads.{are_read}
use Rattle.hx_formed.proofs.reads.are_read.Given as goal

-- the rest is of the sessions that are left
abbrev pub invariant-loop-shown : goal.invariant-loop-shown
invariant-loop-shown g l =
    are_read g.T.Shown.session_of g.T.OfPart.part_of (g.T.Shown.is_there l.models l.resources) (drop l.shown-index l.live) (Some l.rest)
    ≡ are_read g.T.Shown.session_of g.T.OfPart.part_of (g.T.Shown.is_there l.models l.resources) l.live (Some l.fn.items)
