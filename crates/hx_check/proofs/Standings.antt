-- The standing of a history is what the history leaves.
use Rattle.std.proofs.Common.{◌≡◌, ℕ, zero, suc, ◌+◌, ◌<◌, true, false, List, [], ◌∷◌, ◌++◌, length, refl, sym, ap, ◌∙◌, subst, append-nil, append_assoc, arith}
use Rattle.std.specs.Prelude.{slice_index_or}
use Rattle.std.proofs.lemmas.List.{get_or-replicate, length-replicate}
use Rattle.std.proofs.lemmas.Bool.Decides.{nat_tests}
use Rattle.hx_ids.specs.declared.ControllerId.{ControllerId}
use Rattle.hx_cluster.specs.declared.description.Spec.{Spec}
use Rattle.hx_cluster.specs.declared.state.Cluster.{Cluster}
use Rattle.hx_cluster.specs.declared.happenings.Event.{Event}
use Rattle.hx_cluster.specs.Steps.{opening, has_controller}
use Rattle.hx_cluster.specs.Events.{next, replay, IsStep, IsLegal}
use Rattle.hx_pass.specs.Turns.{Turn, idle_turn, turn_after, turn_from, turn_of}
use Rattle.hx_pass.specs.Lawful.{IsProper, IsProperAlong, IsLawful}
use Rattle.hx_safe.proofs.Fixed.{IsFixed, fixed_self, fixed_both, fixed_next}
use Rattle.hx_check.specs.Standing.{Standing, opening_standing, turns_after, stood_after, stood_from, standing_of, turn_in}
use Rattle.hx_pass.proofs.Longer.{legal_more, proper_more}

-- what no event changes
fixed_along : (c : Cluster) (h : List Event) → IsFixed c (replay c h)
fixed_along c [] = fixed_self c
fixed_along c (e ∷ h) = fixed_both (fixed_next c e) (fixed_along (next c e) h)

-- event by event
pub stood_more : (w : Standing) (h : List Event) (e : Event) → stood_from w (h ++ e ∷ []) ≡ stood_after (stood_from w h) e
stood_more w [] e = refl
stood_more w (x ∷ h) e = stood_more (stood_after w x) h e

pub stood_cluster : (w : Standing) (h : List Event) → (stood_from w h).cluster ≡ replay w.cluster h
stood_cluster w [] = refl
stood_cluster w (x ∷ h) = stood_cluster (stood_after w x) h

-- each controller's turn
turns_length : (c : Cluster) (e : Event) (k : ℕ) (ts : List Turn) → length (turns_after c e k ts) ≡ length ts
turns_length c e k [] = refl
turns_length c e k (t ∷ ts) = ap (λ n. suc n) (turns_length c e (k + 1) ts)

turns_at : (c : Cluster) (e : Event) (k i : ℕ) (ts : List Turn) → i < length ts
    → slice_index_or (turns_after c e k ts) i idle_turn ≡ turn_after c (record { 0 = k + i }) (slice_index_or ts i idle_turn) e
turns_at c e k i [] lt = absurd (omega (arith, lt))
turns_at c e k zero (t ∷ ts) lt =
    let same : k ≡ k + 0 = omega arith in ap (λ n. turn_after c (record { 0 = n }) t e) same
turns_at c e k (suc i) (t ∷ ts) lt =
    let same : k + 1 + i ≡ k + suc i = omega arith in
    turns_at c e (k + 1) i ts (omega (arith, lt)) ∙ ap (λ n. turn_after c (record { 0 = n }) (slice_index_or ts i idle_turn) e) same

stood_turn : (w : Standing) (h : List Event) (k : ControllerId) → k.0 < length w.turns
    → slice_index_or (stood_from w h).turns k.0 idle_turn ≡ turn_from w.cluster k (slice_index_or w.turns k.0 idle_turn) h
stood_turn w [] k lt = refl
stood_turn w (x ∷ h) k lt =
    let first : 0 + k.0 ≡ k.0 = omega arith in
    stood_turn (stood_after w x) h k (omega (arith, lt, turns_length w.cluster x 0 w.turns))
    ∙ ap (λ t. turn_from (next w.cluster x) k t h)
    (turns_at w.cluster x 0 k.0 w.turns lt ∙ ap (λ n. turn_after w.cluster (record { 0 = n }) (slice_index_or w.turns k.0 idle_turn) x) first)

pub turn_there : (spec : Spec) (h : List Event) (k : ControllerId) → has_controller (replay (opening spec) h) k ≡ true → turn_in (standing_of spec h) k ≡ turn_of spec k h
turn_there spec h k has =
    let many : length (replay (opening spec) h).controllers ≡ spec.controllers = (fixed_along (opening spec) h).controllers ∙ length-replicate spec.controllers (false, record { 0 = 0 }) in
    let below : k.0 < spec.controllers = grind (arith, nat_tests, has, many) in
    let turns : length (opening_standing spec).turns ≡ spec.controllers = length-replicate spec.controllers idle_turn in
    stood_turn (opening_standing spec) h k (omega (arith, below, turns))
    ∙ ap (λ t. turn_from (opening spec) k t h) (get_or-replicate spec.controllers k.0 idle_turn idle_turn below)

-- a lawful history with one event more, and without its last
pub lawful_more : (spec : Spec) (h : List Event) (e : Event) → IsLawful spec h → IsStep (replay (opening spec) h) e → IsProper spec h e → IsLawful spec (h ++ e ∷ [])
lawful_more spec h e lawful step proper = (legal_more (opening spec) h e lawful.0 step, proper_more spec [] h e lawful.1 proper)

legal_last : (c : Cluster) (h : List Event) (e : Event) → IsLegal c (h ++ e ∷ []) → IsStep (replay c h) e
legal_last c [] e legal = legal.0
legal_last c (x ∷ h) e legal = legal_last (next c x) h e legal.1

proper_last : (spec : Spec) (before h : List Event) (e : Event) → IsProperAlong spec before (h ++ e ∷ []) → IsProper spec (before ++ h) e
proper_last spec before [] e proper = subst (λ (es : List Event). IsProper spec es e) (sym (append-nil before)) proper.0
proper_last spec before (x ∷ h) e proper = subst (λ (es : List Event). IsProper spec es e) (append_assoc before (x ∷ []) h) (proper_last spec (before ++ x ∷ []) h e proper.1)

pub lawful_last : (spec : Spec) (h : List Event) (e : Event) → IsLawful spec (h ++ e ∷ []) → IsStep (replay (opening spec) h) e × IsProper spec h e
lawful_last spec h e lawful = (legal_last (opening spec) h e lawful.0, proper_last spec [] h e lawful.1)
