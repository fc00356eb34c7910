-- The first nearer state, as the transitions are walked.
use Rattle.std.proofs.Common.{◌≡◌, ℕ, ◌+◌, ◌<◌, ◌==◌, ◌&&◌, Bool, true, false, List, ◌∷◌, ◌++◌, length, map, filter, find, drop, get_or, Option, Some, refl, sym, ap, ◌∙◌, subst, add-one, drop-cons}
use Rattle.std.specs.Prelude.{if◌then◌else◌}
use Rattle.hx_ids.specs.declared.StateId.{StateId}

-- where the transitions that are left lead from a state, and then some more
abbrev pub steps_in : List (StateId × StateId) → StateId → List StateId → List StateId
steps_in ts s rest = map (λ t. t.1) (filter (λ t. t.0.0 == s.0) ts) ++ rest

one_step : (p : StateId → Bool) (s : StateId) (t : StateId × StateId) (ts : List (StateId × StateId)) (rest : List StateId) → find p (steps_in (t ∷ ts) s rest) ≡ (if (t.0.0 == s.0) && p t.1 then Some t.1 else find p (steps_in ts s rest))
one_step p s t ts rest = one (t.0.0 == s.0) (p t.1) refl
  where
    one : (a b : Bool) → p t.1 ≡ b → find p (map (λ t. t.1) (if a then t ∷ filter (λ t. t.0.0 == s.0) ts else filter (λ t. t.0.0 == s.0) ts) ++ rest) ≡ (if a && p t.1 then Some t.1 else find p (steps_in ts s rest))
    one true b e = refl
    one false b e = refl

next_step : (p : StateId → Bool) (s : StateId) (ts : List (StateId × StateId)) (i : ℕ) (d : StateId × StateId) (rest : List StateId) → i < length ts → find p (steps_in (drop i ts) s rest) ≡ (if ((get_or ts i d).0.0 == s.0) && p (get_or ts i d).1 then Some (get_or ts i d).1 else find p (steps_in (drop (i + 1) ts) s rest))
next_step p s ts i d rest lt =
    let P : List (StateId × StateId) → Type 0 = λ v. find p (steps_in v s rest) ≡ (if ((get_or ts i d).0.0 == s.0) && p (get_or ts i d).1 then Some (get_or ts i d).1 else find p (steps_in (drop (i + 1) ts) s rest)) in
    let cons : drop i ts ≡ get_or ts i d ∷ drop (i + 1) ts = rw add-one (drop-cons ts i d lt) in
    subst P (sym cons) (one_step p s (get_or ts i d) (drop (i + 1) ts) rest)

-- the transition at a place is taken, or passed
pub step_taken : (p : StateId → Bool) (s : StateId) (ts items : List (StateId × StateId)) (i : ℕ) (d : StateId × StateId) (rest : List StateId) (r : Option StateId) → items ≡ ts → i < length items
    → (((get_or items i d).0.0 == s.0) && p (get_or items i d).1) ≡ true → find p (steps_in (drop i ts) s rest) ≡ r → Some (get_or items i d).1 ≡ r
step_taken p s ts items i d rest r are lt e is =
    let Q : List (StateId × StateId) → Type 0 = λ ys. i < length ys → (((get_or ys i d).0.0 == s.0) && p (get_or ys i d).1) ≡ true → Some (get_or ys i d).1 ≡ r in
    let here : Q ts = λ lt e. sym (next_step p s ts i d rest lt ∙ ap (λ (b : Bool). if b then Some (get_or ts i d).1 else find p (steps_in (drop (i + 1) ts) s rest)) e) ∙ is in
    subst Q (sym are) here lt e

pub step_passed : (p : StateId → Bool) (s : StateId) (ts items : List (StateId × StateId)) (i : ℕ) (d : StateId × StateId) (rest : List StateId) (r : Option StateId) → items ≡ ts → i < length items
    → (((get_or items i d).0.0 == s.0) && p (get_or items i d).1) ≡ false → find p (steps_in (drop i ts) s rest) ≡ r → find p (steps_in (drop (i + 1) ts) s rest) ≡ r
step_passed p s ts items i d rest r are lt e is =
    let Q : List (StateId × StateId) → Type 0 = λ ys. i < length ys → (((get_or ys i d).0.0 == s.0) && p (get_or ys i d).1) ≡ false → find p (steps_in (drop (i + 1) ts) s rest) ≡ r in
    let here : Q ts = λ lt e. sym (next_step p s ts i d rest lt ∙ ap (λ (b : Bool). if b then Some (get_or ts i d).1 else find p (steps_in (drop (i + 1) ts) s rest)) e) ∙ is in
    subst Q (sym are) here lt e
