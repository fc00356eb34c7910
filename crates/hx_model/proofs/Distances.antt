-- Distances as they are found, round by round.
use Rattle.std.proofs.Common.{◌≡◌, ℕ, suc, zero, ◌+◌, ◌≤◌, ◌<◌, ◌==◌, ◌≢◌, ◌&&◌, ◌||◌, min, Bool, true, false, List, [], ◌∷◌, ◌++◌, length, take, get_or, refl, sym, ap, ◌∙◌, subst, add-one, length-set, true≢false, arith}
use Rattle.std.specs.Prelude.{if◌then◌else◌, nat_lt, nat_le}
use Rattle.std.specs.List.{list_any, list_all}
use Rattle.std.proofs.Math.ListN.{set}
use Rattle.std.proofs.Math.Seq.{take-suc}
use Rattle.std.proofs.lemmas.List.{get_or-set_same, get_or-set_other, get_or_past, take_all}
use Rattle.std.proofs.lemmas.List.Folds.{list_all-append, list_any-append}
use Rattle.std.proofs.lemmas.Bool.Decides.{nat_tests}
use Rattle.hx_ids.specs.declared.StateId.{StateId}
use Rattle.hx_model.specs.declared.ModelParts.{ModelParts}
use Rattle.hx_model.specs.Model.{error}
use Rattle.hx_model.specs.Walks.{has_walk, least_from, dist}
use Rattle.hx_model.proofs.Steps.{any-steps_from, any_at}

-- the state of a number
abbrev pub state : ℕ → StateId
state s = record { 0 = s }

-- a number short of the end is the length of a walk
pub record IsReached (m : ModelParts) (goal : StateId) (xs : List ℕ) : Type 0 where
  pub room : length xs ≡ 256
  pub most : (s : ℕ) → get_or xs s 0 ≤ length m.states + 2
  pub walk : (s : ℕ) → s < 256 → get_or xs s 0 < length m.states + 2 → has_walk m (get_or xs s 0) (state s) goal ≡ true

-- no walk of fewer than k transitions is shorter
abbrev pub IsShort : ModelParts → StateId → ℕ → List ℕ → Type 0
IsShort m goal k xs = (n s : ℕ) → n < k → has_walk m n (state s) goal ≡ true → get_or xs s 0 ≤ n

-- a walk may begin with this transition
abbrev pub is_tried : List ℕ → List ℕ → StateId × StateId → Bool
is_tried xs old t = nat_le (get_or xs t.0.0 0) (get_or old t.1.0 0 + 1)

-- a round so far
pub record IsRound (m : ModelParts) (goal : StateId) (old xs : List ℕ) (done : List (StateId × StateId)) : Type 0 where
  pub reached : IsReached m goal xs
  pub fewer : (s : ℕ) → get_or xs s 0 ≤ get_or old s 0
  pub tried : list_all (is_tried xs old) done ≡ true

-- the least number that passes
least_above : (p : ℕ → Bool) (n few v : ℕ) → n ≤ v → p n ≡ false → (v < n + suc few → p v ≡ true) → n < v
least_above p n few v low is here = one (nat_lt n v) refl
  where
    one : (b : Bool) → nat_lt n v ≡ b → n < v
    one true e = grind (arith, nat_tests)
    one false e =
        let same : v ≡ n = grind (arith, nat_tests) in
        let passes : p n ≡ true = ap p (sym same) ∙ here (omega (arith, same)) in
        absurd (true≢false (sym passes ∙ is))

least_is : (p : ℕ → Bool) (n few v : ℕ) → n ≤ v → v ≤ n + few → (v < n + few → p v ≡ true) → ((k : ℕ) → n ≤ k → k < n + few → p k ≡ true → v ≤ k) → least_from p n few ≡ v
least_is p n zero v low high here least = omega arith
least_is p n (suc few) v low high here least = one (p n) refl (least_is p (n + 1) few v)
  where
    one : (b : Bool) → p n ≡ b
        → (n + 1 ≤ v → v ≤ n + 1 + few → (v < n + 1 + few → p v ≡ true) → ((k : ℕ) → n + 1 ≤ k → k < n + 1 + few → p k ≡ true → v ≤ k) → least_from p (n + 1) few ≡ v)
        → (if b then n else least_from p (n + 1) few) ≡ v
    one true is more = let le : v ≤ n = least n (omega arith) (omega arith) is in omega arith
    one false is more =
        let above : n < v = least_above p n few v low is here in
        more (omega arith) (omega arith) (λ h. here (omega arith)) (λ k a b e. least k (omega arith) (omega arith) e)

-- distances that are reached and short are the least
pub dist_is : (m : ModelParts) (goal : StateId) (xs : List ℕ) (s : ℕ) → s < 256 → IsReached m goal xs → IsShort m goal (length m.states + 2) xs → get_or xs s 0 ≡ dist m (state s) goal
dist_is m goal xs s lt r short =
    sym
    (least_is
    (λ n. has_walk m n (state s) goal)
    0
    (length m.states + 2)
    (get_or xs s 0)
    (omega arith)
    (omega (arith, r.most s))
    (λ h. r.walk s lt (omega arith))
    (λ k low high e. short k s (omega arith) e))

get_or-set : (xs : List ℕ) (a v s : ℕ) → a < length xs → get_or (set xs a v) s 0 ≡ (if s == a then v else get_or xs s 0)
get_or-set xs a v s lt = one (s == a) refl
  where
    one : (b : Bool) → (s == a) ≡ b → get_or (set xs a v) s 0 ≡ (if b then v else get_or xs s 0)
    one true e = let same : s ≡ a = grind (arith, nat_tests) in ap (λ n. get_or (set xs a v) n 0) same ∙ get_or-set_same xs a v 0 lt
    one false e = get_or-set_other xs a s v 0 (λ h. true≢false (sym (let is : (s == a) ≡ true = grind (arith, nat_tests) in is) ∙ e))

fewer_set : (xs : List ℕ) (a b s : ℕ) → a < length xs → get_or (set xs a (min (get_or xs a 0) (get_or xs b 0 + 1))) s 0 ≤ get_or xs s 0
fewer_set xs a b s lt = one (s == a) refl
  where
    one : (v : Bool) → (s == a) ≡ v → get_or (set xs a (min (get_or xs a 0) (get_or xs b 0 + 1))) s 0 ≤ get_or xs s 0
    one true e = let same : s ≡ a = grind (arith, nat_tests) in omega (arith, get_or-set_same xs a (min (get_or xs a 0) (get_or xs b 0 + 1)) 0 lt, ap (λ n. get_or (set xs a (min (get_or xs a 0) (get_or xs b 0 + 1))) n 0) same, ap (λ n. get_or xs n 0) same)
    one false e = grind (arith, nat_tests, get_or-set xs a (min (get_or xs a 0) (get_or xs b 0 + 1)) s lt)

walk_same : (m : ModelParts) (goal : StateId) (n k s a : ℕ) → n ≡ k → s ≡ a → has_walk m k (state a) goal ≡ true → has_walk m n (state s) goal ≡ true
walk_same m goal n k s a e d h = (λ i. has_walk m (e i) (state (d i)) goal) ∙ h

-- a distance that a transition may shorten stays the length of a walk
reached_set : (m : ModelParts) (goal : StateId) (xs : List ℕ) (a b : ℕ) → a < 256 → b < 256
    → ((n : ℕ) → has_walk m n (state b) goal ≡ true → has_walk m (suc n) (state a) goal ≡ true)
    → IsReached m goal xs → IsReached m goal (set xs a (min (get_or xs a 0) (get_or xs b 0 + 1)))
reached_set m goal xs a b la lb leads r = record {
  room = simp length-set r.room;
  most = λ s. omega (arith, fewer_set xs a b s in_room, r.most s);
  walk = λ s ls low. one s ls (s == a) refl low;
}
  where
    in_room : a < length xs
    in_room = omega (arith, r.room)

    through : (c : Bool) → nat_lt (get_or xs b 0 + 1) (get_or xs a 0) ≡ c → min (get_or xs a 0) (get_or xs b 0 + 1) < length m.states + 2 → has_walk m (min (get_or xs a 0) (get_or xs b 0 + 1)) (state a) goal ≡ true
    through true e low =
        let is : min (get_or xs a 0) (get_or xs b 0 + 1) ≡ suc (get_or xs b 0) = grind (arith, nat_tests) in
        let before : get_or xs b 0 < length m.states + 2 = omega (arith, is) in
        walk_same m goal _ _ a a is refl (leads (get_or xs b 0) (r.walk b lb before))
    through false e low =
        let is : min (get_or xs a 0) (get_or xs b 0 + 1) ≡ get_or xs a 0 = grind (arith, nat_tests) in
        walk_same m goal _ _ a a is refl (r.walk a la (omega (arith, is)))

    one : (s : ℕ) → s < 256 → (e : Bool) → (s == a) ≡ e → get_or (set xs a (min (get_or xs a 0) (get_or xs b 0 + 1))) s 0 < length m.states + 2
        → has_walk m (get_or (set xs a (min (get_or xs a 0) (get_or xs b 0 + 1))) s 0) (state s) goal ≡ true
    one s ls true e low =
        let same : s ≡ a = grind (arith, nat_tests) in
        let is = get_or-set xs a (min (get_or xs a 0) (get_or xs b 0 + 1)) s in_room ∙ ap (λ (c : Bool). if c then min (get_or xs a 0) (get_or xs b 0 + 1) else get_or xs s 0) e in
        walk_same m goal _ _ s a is same (through (nat_lt (get_or xs b 0 + 1) (get_or xs a 0)) refl (omega (arith, is)))
    one s ls false e low =
        let is = get_or-set xs a (min (get_or xs a 0) (get_or xs b 0 + 1)) s in_room ∙ ap (λ (c : Bool). if c then min (get_or xs a 0) (get_or xs b 0 + 1) else get_or xs s 0) e in
        walk_same m goal _ _ s s is refl (r.walk s ls (omega (arith, is)))

tried_less : (xs ys old : List ℕ) (ts : List (StateId × StateId)) → ((s : ℕ) → get_or ys s 0 ≤ get_or xs s 0) → list_all (is_tried xs old) ts ≡ true → list_all (is_tried ys old) ts ≡ true
tried_less xs ys old [] less h = refl
tried_less xs ys old (t ∷ ts) less h = grind (arith, nat_tests, h, less t.0.0, tried_less xs ys old ts less)

-- a transition more is tried
pub round_more : (m : ModelParts) (goal : StateId) (old xs : List ℕ) (done : List (StateId × StateId)) (a b : StateId) → a.0 < 256 → b.0 < 256
    → ((n : ℕ) → has_walk m n b goal ≡ true → has_walk m (suc n) a goal ≡ true)
    → IsRound m goal old xs done → IsRound m goal old (set xs a.0 (min (get_or xs a.0 0) (get_or xs b.0 0 + 1))) (done ++ (a, b) ∷ [])
round_more m goal old xs done a b la lb leads r =
    let in_room : a.0 < length xs = omega (arith, r.reached.room) in
    let here : get_or (set xs a.0 (min (get_or xs a.0 0) (get_or xs b.0 0 + 1))) a.0 0 ≡ min (get_or xs a.0 0) (get_or xs b.0 0 + 1) = get_or-set_same xs a.0 _ 0 in_room in
    record {
      reached = reached_set m goal xs a.0 b.0 la lb leads r.reached;
      fewer = λ s. omega (arith, fewer_set xs a.0 b.0 s in_room, r.fewer s);
      tried =
          list_all-append (is_tried (set xs a.0 (min (get_or xs a.0 0) (get_or xs b.0 0 + 1))) old) done ((a, b) ∷ [])
          ∙ grind (arith, nat_tests, here, r.fewer b.0, tried_less xs (set xs a.0 (min (get_or xs a.0 0) (get_or xs b.0 0 + 1))) old done (λ s. fewer_set xs a.0 b.0 s in_room) r.tried);
    }

step_short : (m : ModelParts) (goal : StateId) (n k s : ℕ) (xs old : List ℕ) (ts : List (StateId × StateId)) → n < k → IsShort m goal k old → list_all (is_tried xs old) ts ≡ true → list_any (λ t. (t.0.0 == s) && has_walk m n t.1 goal) ts ≡ true → get_or xs s 0 ≤ n + 1
step_short m goal n k s xs old [] lt short all any = absurd (true≢false (sym any))
step_short m goal n k s xs old (t ∷ ts) lt short all any = one (t.0.0 == s) (has_walk m n t.1 goal) refl refl (step_short m goal n k s xs old ts lt short (grind (arith, all))) any
  where
    one : (a b : Bool) → (t.0.0 == s) ≡ a → has_walk m n t.1 goal ≡ b → (list_any (λ t. (t.0.0 == s) && has_walk m n t.1 goal) ts ≡ true → get_or xs s 0 ≤ n + 1)
        → ((a && b) || list_any (λ t. (t.0.0 == s) && has_walk m n t.1 goal) ts) ≡ true → get_or xs s 0 ≤ n + 1
    one true true e w more h =
        let same : t.0.0 ≡ s = grind (arith, nat_tests) in
        let low : get_or old t.1.0 0 ≤ n = short n t.1.0 lt w in
        let here : get_or xs t.0.0 0 ≤ get_or old t.1.0 0 + 1 = grind (arith, nat_tests, all) in
        omega (arith, ap (λ i. get_or xs i 0) same)
    one true false e w more h = more h
    one false b e w more h = more h

-- after a round no walk of one transition more is shorter
pub short_more : (m : ModelParts) (goal : StateId) (old xs : List ℕ) (k : ℕ) → 0 < k → IsShort m goal k old → IsRound m goal old xs (m.transitions ++ (error, m.initial) ∷ []) → IsShort m goal (k + 1) xs
short_more m goal old xs k some short r zero s lt w = omega (arith, r.fewer s, short zero s some w)
short_more m goal old xs k some short r (suc n) s lt w =
    let less : n < k = omega arith in
    rw (← add-one)
    (step_short m goal n k s xs old (m.transitions ++ (error, m.initial) ∷ []) less short r.tried
    (list_any-append (λ t. (t.0.0 == s) && has_walk m n t.1 goal) m.transitions ((error, m.initial) ∷ [])
    ∙ grind (arith, nat_tests, sym (any-steps_from m (λ t. has_walk m n t goal) (state s)) ∙ w)))

-- at the beginning the goal alone is reached
pub first_reached : (m : ModelParts) (goal : StateId) (xs : List ℕ) → length xs ≡ 256 → get_or xs goal.0 0 ≡ 0 → ((s : ℕ) → s < 256 → s ≢ goal.0 → get_or xs s 0 ≡ length m.states + 2) → IsReached m goal xs
first_reached m goal xs room here rest = record {
  room = room;
  most = λ s. bound s (s == goal.0) (nat_lt s 256) refl refl;
  walk = λ s lt low. along s (s == goal.0) refl lt low;
}
  where
    other : (s : ℕ) → (s == goal.0) ≡ false → s ≢ goal.0
    other s e h = true≢false (sym (let is : (s == goal.0) ≡ true = grind (arith, nat_tests) in is) ∙ e)

    bound : (s : ℕ) (a b : Bool) → (s == goal.0) ≡ a → nat_lt s 256 ≡ b → get_or xs s 0 ≤ length m.states + 2
    bound s true b e f = let same : s ≡ goal.0 = grind (arith, nat_tests) in omega (arith, ap (λ i. get_or xs i 0) same)
    bound s false true e f = omega (arith, rest s (grind (arith, nat_tests)) (other s e))
    bound s false false e f = omega (arith, get_or_past xs s 0 (grind (arith, nat_tests)))

    along : (s : ℕ) (a : Bool) → (s == goal.0) ≡ a → s < 256 → get_or xs s 0 < length m.states + 2 → has_walk m (get_or xs s 0) (state s) goal ≡ true
    along s true e lt low =
        let same : s ≡ goal.0 = grind (arith, nat_tests) in
        let none : get_or xs s 0 ≡ 0 = ap (λ i. get_or xs i 0) same ∙ here in
        walk_same m goal _ 0 s s none refl e
    along s false e lt low = absurd (omega (arith, rest s lt (other s e)))

pub first_short : (m : ModelParts) (goal : StateId) (xs : List ℕ) → get_or xs goal.0 0 ≡ 0 → IsShort m goal 1 xs
first_short m goal xs here zero s lt w = let same : s ≡ goal.0 = grind (arith, nat_tests) in omega (arith, ap (λ i. get_or xs i 0) same)
first_short m goal xs here (suc n) s lt w = absurd (omega arith)

-- a transition that is listed leads on
pub listed_leads : (m : ModelParts) (goal : StateId) (i : ℕ) (d : StateId × StateId) (n : ℕ) → i < length m.transitions → has_walk m n (get_or m.transitions i d).1 goal ≡ true → has_walk m (suc n) (get_or m.transitions i d).0 goal ≡ true
listed_leads m goal i d n lt w =
    let t = get_or m.transitions i d in
    let found : list_any (λ u. (u.0.0 == t.0.0) && has_walk m n u.1 goal) m.transitions ≡ true = any_at (λ u. (u.0.0 == t.0.0) && has_walk m n u.1 goal) m.transitions i d lt (grind (arith, nat_tests, w)) in
    any-steps_from m (λ u. has_walk m n u goal) t.0 ∙ grind (arith, found)

-- and so does that from ERROR to the initial state
pub error_leads : (m : ModelParts) (goal : StateId) (n : ℕ) → has_walk m n m.initial goal ≡ true → has_walk m (suc n) error goal ≡ true
error_leads m goal n w = any-steps_from m (λ u. has_walk m n u goal) error ∙ grind (arith, w)

-- a round begins with nothing tried
pub round_none : (m : ModelParts) (goal : StateId) (xs : List ℕ) → IsReached m goal xs → IsRound m goal xs xs []
round_none m goal xs r = record { reached = r; fewer = λ s. omega arith; tried = refl }

-- the loop's steps
pub round_step : (m : ModelParts) (goal : StateId) (old xs ys : List ℕ) (items : List (StateId × StateId)) (i : ℕ) (d : StateId × StateId) → items ≡ m.transitions → i < length items
    → (get_or items i d).0.0 < 256 → (get_or items i d).1.0 < 256
    → ys ≡ set xs (get_or items i d).0.0 (min (get_or xs (get_or items i d).0.0 0) (get_or xs (get_or items i d).1.0 0 + 1))
    → IsRound m goal old xs (take i m.transitions) → IsRound m goal old ys (take (i + 1) m.transitions)
round_step m goal old xs ys items i d are lt la lb is r =
    let P : List ℕ → Type 0 = λ v. IsRound m goal old v (take (i + 1) m.transitions) in
    let Q : List (StateId × StateId) → Type 0 = λ ts. i < length ts → (get_or ts i d).0.0 < 256 → (get_or ts i d).1.0 < 256
    → IsRound m goal old (set xs (get_or ts i d).0.0 (min (get_or xs (get_or ts i d).0.0 0) (get_or xs (get_or ts i d).1.0 0 + 1))) (take (i + 1) m.transitions) in
    let step : Q m.transitions = λ lt la lb.
    let R : List (StateId × StateId) → Type 0 = λ done. IsRound m goal old (set xs (get_or m.transitions i d).0.0 (min (get_or xs (get_or m.transitions i d).0.0 0) (get_or xs (get_or m.transitions i d).1.0 0 + 1))) done in
    let one : take (i + 1) m.transitions ≡ take i m.transitions ++ get_or m.transitions i d ∷ [] = rw add-one (take-suc m.transitions i d lt) in
    subst R (sym one) (round_more m goal old xs (take i m.transitions) (get_or m.transitions i d).0 (get_or m.transitions i d).1 la lb (λ n w. listed_leads m goal i d n lt w) r) in
    subst P (sym is) (subst Q (sym are) step lt la lb)

pub round_end : (m : ModelParts) (goal : StateId) (old xs ys : List ℕ) (i k : ℕ) → length m.transitions ≤ i → m.initial.0 < 256
    → ys ≡ set xs 0 (min (get_or xs 0 0) (get_or xs m.initial.0 0 + 1))
    → 0 < k → IsShort m goal k old → IsRound m goal old xs (take i m.transitions) → IsReached m goal ys × IsShort m goal (k + 1) ys
round_end m goal old xs ys i k all low is some short r =
    let P : List ℕ → Type 0 = λ v. IsReached m goal v × IsShort m goal (k + 1) v in
    let R : List (StateId × StateId) → Type 0 = λ done. IsRound m goal old xs done in
    let last = round_more m goal old xs m.transitions error m.initial (omega arith) low (λ n w. error_leads m goal n w) (subst R (take_all i m.transitions all) r) in
    subst P (sym is) (last.reached, short_more m goal old (set xs 0 (min (get_or xs 0 0) (get_or xs m.initial.0 0 + 1))) k some short last)
