-- No shortest walk visits a state twice, so it is shorter than the number of states, ERROR and DROPPED together.
use Rattle.std.proofs.Common.{◌≡◌, ℕ, suc, zero, ◌+◌, ◌≤◌, ◌<◌, ◌==◌, ◌||◌, not, Bool, true, false, List, [], ◌∷◌, ◌++◌, length, filter, get_or, refl, sym, ap, ◌∙◌, ◌⊎◌, inl, inr, length-append, arith}
use Rattle.std.specs.List.{list_any, list_all}
use Rattle.std.proofs.lemmas.List.{length-map}
use Rattle.hx_ids.specs.declared.StateId.{StateId}
use Rattle.hx_model.specs.declared.Bound.{Bound}
use Rattle.hx_model.specs.declared.ModelParts.{ModelParts}
use Rattle.hx_model.specs.Model.{states_of, error, dropped, is_legal}
use Rattle.hx_model.specs.Walks.{steps_from, has_walk, dist}
use Rattle.hx_hops.proofs.Legal.{state_same, any_exists, step_exists, step_any, dist-shortest}

-- whether a walk of at most k transitions leads to the goal
abbrev pub within : ModelParts → StateId → ℕ → StateId → Bool
within m goal zero s = s.0 == goal.0
within m goal (suc k) s = within m goal k s || list_any (within m goal k) (steps_from m s)

-- all that a walk may visit
abbrev pub nodes : ModelParts → List StateId
nodes m = states_of m ++ error ∷ dropped ∷ []

abbrev pub is_node : ModelParts → StateId → Bool
is_node m s = list_any (λ (t : StateId). t.0 == s.0) (nodes m)

-- each step leads to one of them
pub record IsClosed (m : ModelParts) : Type 0 where
  pub step : (s t : StateId) → is_legal m s t ≡ true → is_node m t ≡ true

any_le : {X : Type 0} (p q : X → Bool) (h : (x : X) → p x ≡ true → q x ≡ true) (xs : List X) → list_any p xs ≡ true → list_any q xs ≡ true
any_le p q h [] e = cc
any_le p q h (x ∷ xs) e = grind (arith, any_le p q h xs, h x)

within_walk : (m : ModelParts) (goal : StateId) (n : ℕ) (s : StateId) → has_walk m n s goal ≡ true → within m goal n s ≡ true
within_walk m goal zero s w = w
within_walk m goal (suc n) s w = let next = any_le (λ t. has_walk m n t goal) (within m goal n) (within_walk m goal n) (steps_from m s) w in grind (arith, next)

within_more : (m : ModelParts) (goal : StateId) (k i : ℕ) (s : StateId) → within m goal k s ≡ true → within m goal (i + k) s ≡ true
within_more m goal k zero s w = (λ j. within m goal (zero-left k j) s) ∙ w
  where
    zero-left : (k : ℕ) → 0 + k ≡ k
    zero-left k = omega arith
within_more m goal k (suc i) s w =
    let more = within_more m goal k i s w in
    let next : suc i + k ≡ suc (i + k) = omega arith in
    (λ j. within m goal (next j) s) ∙ grind (arith, more)

-- what is within some number has a walk of at most that many
walk_within : (m : ModelParts) (goal : StateId) (k : ℕ) (s : StateId) → within m goal k s ≡ true → (j : ℕ) × (j ≤ k) × (has_walk m j s goal ≡ true)
walk_within m goal zero s w = (0, omega arith, w)
walk_within m goal (suc k) s w = one (within m goal k s) refl (walk_within m goal k) w
  where
    one : (b : Bool) → within m goal k s ≡ b → ((t : StateId) → within m goal k t ≡ true → (j : ℕ) × (j ≤ k) × (has_walk m j t goal ≡ true))
        → (b || list_any (within m goal k) (steps_from m s)) ≡ true → (j : ℕ) × (j ≤ suc k) × (has_walk m j s goal ≡ true)
    one true is more h = let at = more s is in (at.0, omega (arith, at.1), at.2)
    one false is more h =
        let step = step_exists m (within m goal k) s h in
        let at = more step.0 step.2 in
        (suc at.0, omega (arith, at.1), step_any m (λ t. has_walk m at.0 t goal) s step.0 step.1 at.2)

count-le : {X : Type 0} (p q : X → Bool) (h : (x : X) → p x ≡ true → q x ≡ true) (xs : List X) → length (filter p xs) ≤ length (filter q xs)
count-le p q h [] = omega arith
count-le p q h (x ∷ xs) = grind (arith, count-le p q h xs, h x)

-- where one more passes, the count is greater
count-lt : {X : Type 0} (p q : X → Bool) (h : (x : X) → p x ≡ true → q x ≡ true) (xs : List X) → list_all (λ x. not (q x) || p x) xs ≡ false → length (filter p xs) + 1 ≤ length (filter q xs)
count-lt p q h [] e = cc
count-lt p q h (x ∷ xs) e = grind (arith, count-le p q h xs, count-lt p q h xs, h x)

count-most : {X : Type 0} (p : X → Bool) (xs : List X) → length (filter p xs) ≤ length xs
count-most p [] = omega arith
count-most p (x ∷ xs) = grind (arith, count-most p xs)

count-some : {X : Type 0} (p : X → Bool) (xs : List X) → list_any p xs ≡ true → 1 ≤ length (filter p xs)
count-some p [] e = cc
count-some p (x ∷ xs) e = grind (arith, count-some p xs)

all_at : (p : StateId → Bool) (xs : List StateId) (s : StateId) → list_all p xs ≡ true → list_any (λ (t : StateId). t.0 == s.0) xs ≡ true → p s ≡ true
all_at p xs s all any =
    let found = any_exists (λ (t : StateId). t.0 == s.0) xs error any in
    sym (ap p (state_same (get_or xs found.0 error) s found.2)) ∙ item p xs found.0 error found.1 all
  where
    item : {X : Type 0} (p : X → Bool) (xs : List X) (i : ℕ) (d : X) → i < length xs → list_all p xs ≡ true → p (get_or xs i d) ≡ true
    item p [] i d lt e = absurd (omega arith)
    item p (x ∷ xs) zero d lt e = grind (arith, e)
    item p (x ∷ xs) (suc i) d lt e = item p xs i d (omega arith) (grind (arith, e))

-- nothing new comes after k transitions
abbrev pub Stops : ModelParts → StateId → ℕ → Type 0
Stops m goal k = (s : StateId) → is_node m s ≡ true → within m goal (suc k) s ≡ true → within m goal k s ≡ true

stops_more : (m : ModelParts) (goal : StateId) (k : ℕ) → IsClosed m → Stops m goal k → Stops m goal (suc k)
stops_more m goal k closed stops s node w = one (within m goal (suc k) s) refl w
  where
    one : (b : Bool) → within m goal (suc k) s ≡ b → (b || list_any (within m goal (suc k)) (steps_from m s)) ≡ true → within m goal (suc k) s ≡ true
    one true is h = is
    one false is h =
        let step = step_exists m (within m goal (suc k)) s h in
        let here = stops step.0 (closed.step s step.0 step.1) step.2 in
        let any : list_any (within m goal k) (steps_from m s) ≡ true = step_any m (within m goal k) s step.0 step.1 here in
        grind (arith, any)

-- from then on all that comes was there
stopped : (m : ModelParts) (goal : StateId) (k i : ℕ) → IsClosed m → Stops m goal k → (s : StateId) → is_node m s ≡ true → within m goal (i + k) s ≡ true → within m goal k s ≡ true
stopped m goal k zero closed stops s node w = (let none : k ≡ 0 + k = omega arith in (λ j. within m goal (none j) s)) ∙ w
stopped m goal k (suc i) closed stops s node w =
    stops s node (stopped m goal (suc k) i closed (stops_more m goal k closed stops) s node ((let next : i + suc k ≡ suc i + k = omega arith in (λ j. within m goal (next j) s)) ∙ w))

-- either something new came with each transition, or nothing more comes
grows : (m : ModelParts) (goal : StateId) (k : ℕ) → is_node m goal ≡ true → ((j : ℕ) × (j < k) × Stops m goal j) ⊎ (k + 1 ≤ length (filter (within m goal k) (nodes m)))
grows m goal zero node = inr (omega (arith, count-some (within m goal 0) (nodes m) node))
grows m goal (suc k) node = one (grows m goal k node) (list_all (λ s. not (within m goal (suc k) s) || within m goal k s) (nodes m)) refl
  where
    keeps : (s : StateId) → within m goal k s ≡ true → within m goal (suc k) s ≡ true
    keeps s e = grind (arith, e)

    one : ((j : ℕ) × (j < k) × Stops m goal j) ⊎ (k + 1 ≤ length (filter (within m goal k) (nodes m)))
        → (b : Bool) → list_all (λ s. not (within m goal (suc k) s) || within m goal k s) (nodes m) ≡ b
        → ((j : ℕ) × (j < suc k) × Stops m goal j) ⊎ (suc k + 1 ≤ length (filter (within m goal (suc k)) (nodes m)))
    one (inl at) b is = inl (at.0, omega (arith, at.1), at.2)
    one (inr more) true is =
        let stops : Stops m goal k = λ s here w. let h = all_at (λ s. not (within m goal (suc k) s) || within m goal k s) (nodes m) s is here in grind (arith, h, w) in
        inl (k, omega arith, stops)
    one (inr more) false is = inr (omega (arith, more, count-lt (within m goal k) (within m goal (suc k)) keeps (nodes m) is))

-- a walk of any length means one that is short
pub walk_short : (m : ModelParts) (n : ℕ) (s goal : StateId) → IsClosed m → is_node m s ≡ true → is_node m goal ≡ true → has_walk m n s goal ≡ true → dist m s goal < length m.states + 2
walk_short m n s goal closed node end w = one (grows m goal (length (nodes m)) end)
  where
    long : length (nodes m) ≡ length m.states + 2
    long = omega (arith, length-append (states_of m) (error ∷ dropped ∷ []), length-map m.states (λ (p : StateId × Bound). p.0))

    one : ((j : ℕ) × (j < length (nodes m)) × Stops m goal j) ⊎ (length (nodes m) + 1 ≤ length (filter (within m goal (length (nodes m))) (nodes m))) → dist m s goal < length m.states + 2
    one (inl at) =
        let far : within m goal (at.0 + n) s ≡ true = within_more m goal n at.0 s (within_walk m goal n s w) in
        let turned : n + at.0 ≡ at.0 + n = omega arith in
        let here = stopped m goal at.0 n closed at.2 s node ((λ j. within m goal (turned j) s) ∙ far) in
        let walk = walk_within m goal at.0 s here in
        omega (arith, dist-shortest m walk.0 s goal walk.2, walk.1, at.1, long)
    one (inr more) = absurd (omega (arith, more, count-most (within m goal (length (nodes m))) (nodes m)))
