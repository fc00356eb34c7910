-- Participants by the places of their lists of failures, and what goes over the numbers below a bound.
use Rattle.std.proofs.Common.{◌≡◌, ℕ, ◌+◌, List, [], ◌∷◌, map, refl, sym, ap, ◌∙◌}
use Rattle.std.specs.List.{enumerate_from}
use Rattle.std.proofs.lemmas.List.{map-id}
use Rattle.hx_cluster.specs.declared.description.Failure.{Failure}
use Rattle.hx_replicas.specs.Jobs.{ParticipantState}
use Rattle.hx_app.specs.Simulation.{staff_at, staff_from}

-- lists in their places, each read by f
at_places : {L : Type 0} (f : L → List Failure) (n : ℕ) (lists : List L) → map (λ p. staff_at p.0 (f p.1)) (enumerate_from n lists) ≡ staff_from n (map f lists)
at_places f n [] = refl
at_places f n (l ∷ ls) = ap (λ (rest : List ParticipantState). staff_at n (f l) ∷ rest) (at_places f (n + 1) ls)

pub staff_at_places : {L : Type 0} (f : L → List Failure) (n : ℕ) (places : List (ℕ × L)) (lists : List L) → map (λ p. p) places ≡ enumerate_from n lists
    → map (λ p. staff_at p.0 (f p.1)) places ≡ staff_from n (map f lists)
staff_at_places f n places lists is = ap (map (λ p. staff_at p.0 (f p.1))) (sym (map-id places) ∙ is) ∙ at_places f n lists
