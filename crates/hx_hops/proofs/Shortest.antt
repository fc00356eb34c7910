-- Walks of a model without a fault: the shortest ones, and the first step of one.
use Rattle.std.proofs.Common.{◌≡◌, ℕ, suc, zero, ◌+◌, ◌≤◌, ◌<◌, ◌==◌, ◌&&◌, ◌||◌, Bool, true, false, List, [], ◌∷◌, ◌++◌, length, map, filter, find, get_or, Some, None, refl, sym, ap, ◌∙◌, true≢false, arith}
use Rattle.std.specs.Prelude.{if◌then◌else◌, nat_lt}
use Rattle.std.specs.List.{list_any, list_all, position_or_len}
use Rattle.std.proofs.lemmas.Bool.Decides.{nat_tests}
use Rattle.std.proofs.lemmas.List.Folds.{list_any-append}
use Rattle.hx_ids.specs.declared.StateId.{StateId}
use Rattle.hx_model.specs.declared.ModelParts.{ModelParts}
use Rattle.hx_model.specs.Faults.{fault_of, is_known}
use Rattle.hx_model.specs.Model.{states_of, has_state, error, dropped, is_between, is_legal, rank_of}
use Rattle.hx_model.specs.Walks.{steps_from, has_walk, dist, reaches}
use Rattle.hx_model.proofs.Facts.{IsSound, sound_facts}
use Rattle.hx_model.proofs.Found.{eqb-same}
use Rattle.hx_hops.specs.Hops.{hop, is_from, is_goal, leads}
use Rattle.hx_hops.proofs.Legal.{state_same, and_left, and_right, any_exists, step_exists, step_any, walk_path, dist_walk, dist-shortest}
use Rattle.hx_hops.proofs.Short.{IsClosed, is_node, walk_short}
use Rattle.hx_hops.proofs.Steps.{steps_in}
use Rattle.hx_hops.proofs.Table.{any_state}

node_is : (m : ModelParts) (s : StateId) → is_node m s ≡ (has_state m s || ((0 == s.0) || ((1 == s.0) || false)))
node_is m s = list_any-append (λ (t : StateId). t.0 == s.0) (states_of m) (error ∷ dropped ∷ []) ∙ ap (λ b. b || ((0 == s.0) || ((1 == s.0) || false))) (any_state s.0 m.states)

-- a state of the model, or another one that is ERROR or DROPPED
node_by : (m : ModelParts) (s : StateId) (other : Bool) → (other ≡ true → ((0 == s.0) || ((1 == s.0) || false)) ≡ true) → (has_state m s || other) ≡ true → is_node m s ≡ true
node_by m s other is e = node_is m s ∙ one (has_state m s) e
  where
    one : (b : Bool) → (b || other) ≡ true → (b || ((0 == s.0) || ((1 == s.0) || false))) ≡ true
    one true h = refl
    one false h = is h

node_goal : (m : ModelParts) (s : StateId) → is_goal m s ≡ true → is_node m s ≡ true
node_goal m s e = node_by m s (s.0 == 1) (λ h. grind (arith, nat_tests, h)) e

node_from : (m : ModelParts) (s : StateId) → is_from m s ≡ true → is_node m s ≡ true
node_from m s e = node_by m s (s.0 == 0) (λ h. grind (arith, nat_tests, h)) e

all_item : {X : Type 0} (p : X → Bool) (xs : List X) (i : ℕ) (d : X) → i < length xs → list_all p xs ≡ true → p (get_or xs i d) ≡ true
all_item p [] i d lt e = absurd (omega arith)
all_item p (x ∷ xs) zero d lt e = and_left (p x) (list_all p xs) e
all_item p (x ∷ xs) (suc i) d lt e = all_item p xs i d (omega arith) (and_right (p x) (list_all p xs) e)

or_left : (a b : Bool) → a ≡ true → (a || b) ≡ true
or_left a b e = ap (λ c. c || b) e

-- each step leads to a state of the model, or to DROPPED
closed : (m : ModelParts) → IsSound m → IsClosed m
closed m sound = record { step = λ s t legal. node_goal m t (one s t (list_any (is_between s t) m.transitions) refl legal) }
  where
    one : (s t : StateId) (b : Bool) → list_any (is_between s t) m.transitions ≡ b → (b || ((s.0 == 0) && (t.0 == m.initial.0))) ≡ true → is_goal m t ≡ true
    one s t true is h =
        let d : StateId × StateId = (error, error) in
        let found = any_exists (is_between s t) m.transitions d is in
        let u = get_or m.transitions found.0 d in
        let known : is_known m u ≡ true = all_item (is_known m) m.transitions found.0 d found.1 sound.known in
        let same : u.1 ≡ t = state_same u.1 t (and_right (u.0.0 == s.0) (u.1.0 == t.0) found.2) in
        sym (ap (is_goal m) same) ∙ and_right (has_state m u.0) (is_goal m u.1) known
    one s t false is h =
        let same : t ≡ m.initial = state_same t m.initial (and_right (s.0 == 0) (t.0 == m.initial.0) h) in
        ap (is_goal m) same ∙ or_left (has_state m m.initial) (m.initial.0 == 1) sound.initial

-- walks follow one another
walk-append : (m : ModelParts) (n k : ℕ) (a b c : StateId) → has_walk m n a b ≡ true → has_walk m k b c ≡ true → has_walk m (n + k) a c ≡ true
walk-append m zero k a b c v w =
    let none : zero + k ≡ k = omega arith in
    (λ i. has_walk m (none i) (state_same a b v i) c) ∙ w
walk-append m (suc n) k a b c v w =
    let step = step_exists m (λ t. has_walk m n t b) a v in
    let next : suc n + k ≡ suc (n + k) = omega arith in
    (λ i. has_walk m (next i) a c) ∙ step_any m (λ t. has_walk m (n + k) t c) a step.0 step.1 (walk-append m n k step.0 b c step.2 w)

reached_walk : (m : ModelParts) (s goal : StateId) → reaches m s goal ≡ true → has_walk m (dist m s goal) s goal ≡ true
reached_walk m s goal e = dist_walk m s goal (below (dist m s goal) (length m.states + 2) e)
  where
    below : (a b : ℕ) → nat_lt a b ≡ true → a < b
    below a b e = grind (arith, nat_tests)

to_initial : (m : ModelParts) (s : StateId) → IsSound m → is_from m s ≡ true → (n : ℕ) × (has_walk m n s m.initial ≡ true)
to_initial m s sound e = one (has_state m s) refl e
  where
    one : (b : Bool) → has_state m s ≡ b → (b || (s.0 == 0)) ≡ true → (n : ℕ) × (has_walk m n s m.initial ≡ true)
    one true is h = (dist m s m.initial, reached_walk m s m.initial (sound.left s is))
    one false is h =
        let legal : is_legal m s m.initial ≡ true = leads_on (list_any (is_between s m.initial) m.transitions) (λ i. h i && eqb-same m.initial.0 i) in
        (1, step_any m (λ t. has_walk m 0 t m.initial) s m.initial legal (eqb-same m.initial.0))
      where
        leads_on : (b : Bool) {c : Bool} → c ≡ true → (b || c) ≡ true
        leads_on true e = refl
        leads_on false e = e

from_initial : (m : ModelParts) (goal : StateId) → IsSound m → is_goal m goal ≡ true → (n : ℕ) × (has_walk m n m.initial goal ≡ true)
from_initial m goal sound e = one (has_state m goal) refl e
  where
    one : (b : Bool) → has_state m goal ≡ b → (b || (goal.0 == 1)) ≡ true → (n : ℕ) × (has_walk m n m.initial goal ≡ true)
    one true is h = (dist m m.initial goal, reached_walk m m.initial goal (sound.reached goal is))
    one false is h =
        let same : goal ≡ dropped = state_same goal dropped h in
        let legal : is_legal m m.initial dropped ≡ true = or_left (list_any (is_between m.initial dropped) m.transitions) ((m.initial.0 == 0) && (1 == m.initial.0)) sound.drops in
        (1, ap (has_walk m 1 m.initial) same ∙ step_any m (λ t. has_walk m 0 t dropped) m.initial dropped legal refl)

-- a walk leads from each state, and from ERROR, to each goal
pub dist-reached : (m : ModelParts) (s goal : StateId) → fault_of m ≡ None → is_from m s ≡ true → is_goal m goal ≡ true → dist m s goal < length m.states + 2
dist-reached m s goal none from end =
    let sound = sound_facts m none in
    let first = to_initial m s sound from in
    let then_on = from_initial m goal sound end in
    walk_short m (first.0 + then_on.0) s goal (closed m sound) (node_from m s from) (node_goal m goal end) (walk-append m first.0 then_on.0 s m.initial goal first.1 then_on.1)

pub some_walk : (m : ModelParts) (s goal : StateId) → fault_of m ≡ None → is_from m s ≡ true → is_goal m goal ≡ true → (path : List StateId) × (leads m s path goal ≡ true) × (length path ≡ dist m s goal)
some_walk m s goal none from end = walk_path m (dist m s goal) s goal (dist_walk m s goal (dist-reached m s goal none from end))

find_passes : (p : StateId → Bool) (xs : List StateId) (t : StateId) → find p xs ≡ Some t → p t ≡ true
find_passes p [] t e = cc
find_passes p (x ∷ xs) t e = grind (arith, find_passes p xs t)

find_among : (p : StateId → Bool) (xs : List StateId) (t : StateId) → find p xs ≡ Some t → list_any (λ (u : StateId). u.0 == t.0) xs ≡ true
find_among p [] t e = cc
find_among p (x ∷ xs) t e = one (p x) e (find_among p xs t)
  where
    one : (b : Bool) → (if b then Some x else find p xs) ≡ Some t → (find p xs ≡ Some t → list_any (λ (u : StateId). u.0 == t.0) xs ≡ true) → ((x.0 == t.0) || list_any (λ (u : StateId). u.0 == t.0) xs) ≡ true
    one true h more = let same : x ≡ t = cc in or_left (x.0 == t.0) (list_any (λ (u : StateId). u.0 == t.0) xs) (ap (λ (u : StateId). u.0 == t.0) same ∙ eqb-same t.0)
    one false h more = ap (λ b. (x.0 == t.0) || b) (more h) ∙ or_true (x.0 == t.0)
      where
        or_true : (b : Bool) → (b || true) ≡ true
        or_true true = refl
        or_true false = refl

find_some : (p : StateId → Bool) (xs : List StateId) → list_any p xs ≡ true → find p xs ≡ None → ⊥
find_some p [] any none = true≢false (sym any)
find_some p (x ∷ xs) any none = one (p x) any none (find_some p xs)
  where
    one : (b : Bool) → (b || list_any p xs) ≡ true → (if b then Some x else find p xs) ≡ None → (list_any p xs ≡ true → find p xs ≡ None → ⊥) → ⊥
    one true h none more = cc
    one false h none more = more h none

-- what a test finds first among the steps has the least rank of those that pass
first_rank : (p : StateId → Bool) (s t u : StateId) (ts : List (StateId × StateId)) (rest : List StateId) → p u ≡ true → find p (steps_in ts s rest) ≡ Some t → position_or_len (is_between s t) ts ≤ position_or_len (is_between s u) ts
first_rank p s t u [] rest pass e = omega arith
first_rank p s t u (x ∷ ts) rest pass e = one (x.0.0 == s.0) (p x.1) refl refl e (first_rank p s t u ts rest pass)
  where
    passes : p t ≡ true
    passes = find_passes p (steps_in (x ∷ ts) s rest) t e

    other : (v : StateId) → p v ≡ true → p x.1 ≡ false → (x.1.0 == v.0) ≡ false
    other v pv px = cases (x.1.0 == v.0) refl
      where
        cases : (b : Bool) → (x.1.0 == v.0) ≡ b → b ≡ false
        cases true is = absurd (true≢false (sym pv ∙ sym (ap p (state_same x.1 v is)) ∙ px))
        cases false is = refl

    one : (a b : Bool) → (x.0.0 == s.0) ≡ a → p x.1 ≡ b
        → find p (map (λ t. t.1) (if a then x ∷ filter (λ t. t.0.0 == s.0) ts else filter (λ t. t.0.0 == s.0) ts) ++ rest) ≡ Some t
        → (find p (steps_in ts s rest) ≡ Some t → position_or_len (is_between s t) ts ≤ position_or_len (is_between s u) ts)
        → position_or_len (is_between s t) (x ∷ ts) ≤ position_or_len (is_between s u) (x ∷ ts)
    one false b is at h more = grind (arith, is, more h)
    one true true is at h more =
        let found : x.1 ≡ t = taken (ap (λ (c : Bool). if c then Some x.1 else find p (steps_in ts s rest)) (sym at) ∙ h) in
        let here : (x.1.0 == t.0) ≡ true = ap (λ (v : StateId). v.0 == t.0) found ∙ eqb-same t.0 in
        let first : position_or_len (is_between s t) (x ∷ ts) ≡ 0 = grind (arith, is, here) in
        omega (arith, first)
      where
        taken : {a b : StateId} → Some a ≡ Some b → a ≡ b
        taken e = cc
    one true false is at h more =
        let less = more (ap (λ (c : Bool). if c then Some x.1 else find p (steps_in ts s rest)) (sym at) ∙ h) in
        grind (arith, is, less, other t passes at, other u pass at)

-- the hop is legal and nearer, and no such state has a lower rank
pub record IsFirstHop (m : ModelParts) (s t goal : StateId) : Type 0 where
  pub legal : is_legal m s t ≡ true
  pub nearer : dist m t goal + 1 ≡ dist m s goal
  pub first : (u : StateId) → dist m u goal + 1 ≡ dist m s goal → rank_of m s t ≤ rank_of m s u

pub hop_first : (m : ModelParts) (s goal t : StateId) → hop m s goal ≡ Some t → IsFirstHop m s t goal
hop_first m s goal t e = one (s.0 == goal.0) e
  where
    p : StateId → Bool
    p u = dist m u goal + 1 == dist m s goal

    one : (b : Bool) → (if b then None else find (λ u. dist m u goal + 1 == dist m s goal) (steps_from m s)) ≡ Some t → IsFirstHop m s t goal
    one true h = cc
    one false h =
        let step = step_exists m (λ u. u.0 == t.0) s (find_among (λ u. dist m u goal + 1 == dist m s goal) (steps_from m s) t h) in
        record {
          legal = sym (ap (is_legal m s) (state_same step.0 t step.2)) ∙ step.1;
          nearer = same (dist m t goal + 1) (dist m s goal) (find_passes (λ u. dist m u goal + 1 == dist m s goal) (steps_from m s) t h);
          first = λ u near. first_rank (λ u. dist m u goal + 1 == dist m s goal) s t u m.transitions (if s.0 == 0 then m.initial ∷ [] else []) (equal (dist m u goal + 1) (dist m s goal) near) h;
        }
      where
        same : (a b : ℕ) → (a == b) ≡ true → a ≡ b
        same a b e = grind (arith, nat_tests)

        equal : (a b : ℕ) → a ≡ b → (a == b) ≡ true
        equal a b e = grind (arith, nat_tests)

-- there is none at the goal alone
pub hop_none : (m : ModelParts) (s goal : StateId) → fault_of m ≡ None → is_from m s ≡ true → is_goal m goal ≡ true → hop m s goal ≡ None → s ≡ goal
hop_none m s goal none from end e = one (s.0 == goal.0) refl e
  where
    reached : dist m s goal < length m.states + 2
    reached = dist-reached m s goal none from end

    step_near : (n : ℕ) → dist m s goal ≡ suc n → list_any (λ u. dist m u goal + 1 == dist m s goal) (steps_from m s) ≡ true
    step_near n is =
        let step = step_exists m (λ t. has_walk m n t goal) s ((λ i. has_walk m (sym is i) s goal) ∙ dist_walk m s goal reached) in
        let near : dist m step.0 goal ≤ n = dist-shortest m n step.0 goal step.2 in
        let walk : has_walk m (dist m step.0 goal) step.0 goal ≡ true = dist_walk m step.0 goal (omega (arith, near, is, reached)) in
        let back : dist m s goal ≤ suc (dist m step.0 goal) = dist-shortest m (suc (dist m step.0 goal)) s goal (step_any m (λ t. has_walk m (dist m step.0 goal) t goal) s step.0 step.1 walk) in
        let same : dist m step.0 goal + 1 ≡ dist m s goal = omega (arith, near, is, back) in
        step_any m (λ u. dist m u goal + 1 == dist m s goal) s step.0 step.1 (equal (dist m step.0 goal + 1) (dist m s goal) same)
      where
        equal : (a b : ℕ) → a ≡ b → (a == b) ≡ true
        equal a b e = grind (arith, nat_tests)

    apart : (n : ℕ) → dist m s goal ≡ n → (s.0 == goal.0) ≡ false → find (λ u. dist m u goal + 1 == dist m s goal) (steps_from m s) ≡ None → ⊥
    apart zero is ne h = true≢false (sym ((λ i. has_walk m (sym is i) s goal) ∙ dist_walk m s goal reached) ∙ ne)
    apart (suc n) is ne h = find_some (λ u. dist m u goal + 1 == dist m s goal) (steps_from m s) (step_near n is) h

    one : (b : Bool) → (s.0 == goal.0) ≡ b → (if b then None else find (λ u. dist m u goal + 1 == dist m s goal) (steps_from m s)) ≡ None → s ≡ goal
    one true is h = state_same s goal is
    one false is h = absurd (apart (dist m s goal) refl is h)

pub hop_at_goal : (m : ModelParts) (s goal : StateId) → s ≡ goal → hop m s goal ≡ None
hop_at_goal m s goal same = ap (λ (b : Bool). if b then None else find (λ u. dist m u goal + 1 == dist m s goal) (steps_from m s)) (ap (λ (t : StateId). t.0 == goal.0) same ∙ eqb-same goal.0)
