use Rattle.std.proofs.Common.{◌∙◌, ◌++◌, ℕ, List, [], ◌∷◌, take, sym, ap, arith}
use Rattle.std.proofs.lemmas.List.{length-take-le}
use Rattle.std.specs.List.{position}
use Rattle.std.specs.BTreeMap.{BTreeMap, get}
use Rattle.std.proofs.lemmas.Grind.{take_at_read}
use Rattle.hx_ids.specs.declared.SessionId.{SessionId}
use Rattle.hx_ids.specs.declared.PartId.{PartId}
use Rattle.hx_report.specs.Places.{is_for, replica_cmp}
use Rattle.hx_report.proofs.Placing.{place_added, place_kept}
use Rattle.hx_report.proofs.places.first_places.Goals as goal
use Rattle.hx_report.proofs.places.first_places.Goals.{then-not-contains_key+in_ok-insert, else-not-contains_key}

pub loop-place-preserved : goal.loop-place-preserved
loop-place-preserved g c = λ s p.
    let candidate_of = g.T.OfCandidate.candidate_of in
    let i = c.loop-place.place in
    let items = c.args.items.now in
    let item = c.index-items-place.result in
    let k = c.candidate-candidate.result in
    let test = λ (x : g.row.T.Denot). is_for s p (candidate_of x) in
    let length_is = sym (length-take-le i items (omega arith)) in
    let front = (take_at_read items i item c.loop-place-test.true).1 ∙ ap (λ (x : g.row.T.Denot). take i items ++ x ∷ []) (sym c.index-items-place.is) in
    let more = sym (ap (λ (xs : List g.row.T.Denot). position test xs) front) in
    let found = λ (m : BTreeMap (SessionId × PartId) ℕ) (u : SessionId) (q : PartId). get replica_cmp m (u, q) in
    elim c.if-not-contains_key.branch [
      | then-not-contains_key+in_ok-insert w ↦
          ap (λ (m : BTreeMap (SessionId × PartId) ℕ). found m s p) w.places-is
          ∙ place_added candidate_of (take i items) item k c.candidate-candidate.ensures (found c.loop-place.places) c.loop-place.invariant i (found w.insert.new.self) length_is
          (sym c.contains_key.ensures ∙ w.if-not-contains_key.true) (λ u q. w.in_ok-insert.ensures.updates.0 (u, q)) s p
          ∙ more
      | else-not-contains_key w ↦
          ap (λ (m : BTreeMap (SessionId × PartId) ℕ). found m s p) w.places-is
          ∙ place_kept candidate_of (take i items) item k c.candidate-candidate.ensures (found c.loop-place.places) c.loop-place.invariant
          (sym c.contains_key.ensures ∙ w.if-not-contains_key.false) s p
          ∙ more
    ]
