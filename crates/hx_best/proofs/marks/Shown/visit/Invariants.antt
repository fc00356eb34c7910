use Rattle.std.proofs.Common.{◌==◌, None, length, take}
use Rattle.std.specs.List.{list_any}
use Rattle.hx_best.specs.Places.{order_of}
use Rattle.hx_best.specs.Visits.{Adds}
use Rattle.hx_best.proofs.marks.Shown.visit.Given as goal

-- the places so far are visited
abbrev pub invariant-loop-number : goal.invariant-loop-number
invariant-loop-number l = Adds (length (order_of l.self.0)) (λ k. list_any (λ e. e.1 == k) (take l.number-index l.places)) None l.initial.visits l.visits
