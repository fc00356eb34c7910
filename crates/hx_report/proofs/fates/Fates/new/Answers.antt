use Rattle.std.proofs.Common.{List, subst}
use Rattle.hx_cluster.specs.declared.planning.Candidate.{Candidate}
use Rattle.hx_cluster.specs.declared.planning.Held.{Held}
use Rattle.hx_cluster.specs.declared.planning.Full.{Full}
use Rattle.hx_report.specs.Places.{ArePlaces}
use Rattle.hx_report.proofs.fates.Fates.new.Goals as goal

pub invariant_of-result : goal.invariant_of-result
invariant_of-result c = record {
  sent = let P : List Candidate → Type 0 = λ xs. ArePlaces (λ x. x) xs c.in_ok-first_places.field-0 in subst P c.as_slice.ensures c.in_ok-first_places.ensures;
  held = let P : List Held → Type 0 = λ xs. ArePlaces (λ h. h.candidate) xs c.in_ok-first_places-2.field-0 in subst P c.as_slice-2.ensures c.in_ok-first_places-2.ensures;
  full = let P : List Full → Type 0 = λ xs. ArePlaces (λ f. f.candidate) xs c.in_ok-first_places-3.field-0 in subst P c.as_slice-3.ensures c.in_ok-first_places-3.ensures;
}
