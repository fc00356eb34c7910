use Rattle.std.proofs.Common.{take}
use Rattle.hx_report.specs.Places.{ArePlaces}
use Rattle.hx_report.proofs.places.first_places.Given as goal

abbrev pub invariant-loop-place : goal.invariant-loop-place
invariant-loop-place g l = ArePlaces g.T.OfCandidate.candidate_of (take l.place l.items) l.places
