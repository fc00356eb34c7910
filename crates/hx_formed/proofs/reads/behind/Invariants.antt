use Rattle.std.proofs.Common.{◌≡◌, drop}
use Rattle.hx_formed.specs.Places.{from_of, IsAt}
use Rattle.hx_formed.specs.Reads.{first_part, behind}
use Rattle.hx_formed.proofs.reads.behind.Given as goal

-- what stands behind the items that are left is what stands behind all
abbrev pub invariant-loop-place : goal.invariant-loop-place
invariant-loop-place g l =
    (behind g.T.Shown.session_of g.T.OfPart.part_of (g.T.Shown.is_there l.models l.resources) l.session (from_of l.at) (drop l.place l.items)
    ≡ behind g.T.Shown.session_of g.T.OfPart.part_of (g.T.Shown.is_there l.models l.resources) l.session first_part l.items)
    × IsAt l.models l.resources l.at
