-- One step of a walk.
use Rattle.std.proofs.Common.{◌≡◌, ℕ, suc, zero, ◌<◌, ◌==◌, ◌&&◌, ◌||◌, Bool, true, false, List, [], ◌∷◌, length, map, filter, get_or, refl, ◌∙◌, arith}
use Rattle.std.specs.Prelude.{if◌then◌else◌}
use Rattle.std.specs.List.{list_any}
use Rattle.std.proofs.lemmas.List.Folds.{list_any-append}
use Rattle.hx_ids.specs.declared.StateId.{StateId}
use Rattle.hx_model.specs.declared.ModelParts.{ModelParts}
use Rattle.hx_model.specs.Walks.{steps_from}

any-map-filter : {X Y : Type 0} (p : Y → Bool) (f : X → Y) (q : X → Bool) (xs : List X) → list_any p (map f (filter q xs)) ≡ list_any (λ x. q x && p (f x)) xs
any-map-filter p f q [] = refl
any-map-filter p f q (x ∷ xs) = grind (arith, any-map-filter p f q xs)

if_any : (p : StateId → Bool) (b : Bool) (s : StateId) → list_any p (if b then s ∷ [] else []) ≡ (b && p s)
if_any p true s = grind arith
if_any p false s = refl

-- a step is listed, or leads from ERROR to the initial state
pub any-steps_from : (m : ModelParts) (p : StateId → Bool) (s : StateId) → list_any p (steps_from m s) ≡ (list_any (λ t. (t.0.0 == s.0) && p t.1) m.transitions || ((s.0 == 0) && p m.initial))
any-steps_from m p s =
    list_any-append p (map (λ t. t.1) (filter (λ t. t.0.0 == s.0) m.transitions)) (if s.0 == 0 then m.initial ∷ [] else [])
    ∙ (λ i. any-map-filter p (λ (t : StateId × StateId). t.1) (λ t. t.0.0 == s.0) m.transitions i || if_any p (s.0 == 0) m.initial i)

pub any_at : {X : Type 0} (p : X → Bool) (xs : List X) (i : ℕ) (d : X) → i < length xs → p (get_or xs i d) ≡ true → list_any p xs ≡ true
any_at p [] i d lt e = absurd (omega arith)
any_at p (x ∷ xs) zero d lt e = grind (arith, e)
any_at p (x ∷ xs) (suc i) d lt e = grind (arith, any_at p xs i d (omega arith) e)
