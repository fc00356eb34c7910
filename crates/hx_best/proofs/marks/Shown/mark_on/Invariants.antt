use Rattle.std.proofs.Common.{Some, length}
use Rattle.hx_best.specs.Places.{order_of}
use Rattle.hx_best.specs.Visits.{Adds}
use Rattle.hx_best.proofs.Visiting.{from_to}
use Rattle.hx_best.proofs.marks.Shown.mark_on.Given as goal

-- the sessions so far are visited
abbrev pub invariant-loop-number : goal.invariant-loop-number
invariant-loop-number l = Adds (length (order_of l.self.0)) (from_to l.first l.number) (Some l.mark) l.initial.visits l.visits
