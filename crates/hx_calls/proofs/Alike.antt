-- Models that are alike in what can be read of them are one.
use Rattle.std.proofs.Common.{◌≡◌, ℕ, ◌==◌, ◌&&◌, ◌||◌, not, Bool, true, false, List, [], ◌∷◌, ◌++◌, map, find, length, Option, Some, None, refl, sym, ap, ◌∙◌, subst, arith}
use Rattle.std.specs.Prelude.{if◌then◌else◌}
use Rattle.std.specs.List.{list_any, list_all}
use Rattle.std.specs.Option.{option_or, option_map_or}
use Rattle.std.proofs.lemmas.Bool.Decides.{nat_tests}
use Rattle.hx_lists.specs.First.{answer_behind}
use Rattle.hx_ids.specs.declared.StateId.{StateId}
use Rattle.hx_model.specs.declared.Bound.{Bound}
use Rattle.hx_model.specs.declared.Bound.TheVariants.{Count, Replicas, Live, Free}
use Rattle.hx_model.specs.declared.ModelFault.TheVariants.{TwiceState}
use Rattle.hx_model.specs.declared.ModelParts.{ModelParts}
use Rattle.hx_model.specs.Model.{states_of, bound_of}
use Rattle.hx_model.specs.Faults.{fault_of, fault_at, twice_at, twice_place, twice_state, too_many_states, reserved_state, reserved_transition}
use Rattle.hx_calls.specs.Bounds.{is_same_bound}

pub bound-same : (a b : Bound) → is_same_bound a b ≡ true → a ≡ b
bound-same (Count m) (Count n) e = let same : m ≡ n = grind (arith, nat_tests, e) in ap Count same
bound-same Replicas Replicas e = refl
bound-same Live Live e = refl
bound-same Free Free e = refl
bound-same _ _ e = cc

pub bound-itself : (a : Bound) → is_same_bound a a ≡ true
bound-itself (Count n) = grind (arith, nat_tests)
bound-itself Replicas = refl
bound-itself Live = refl
bound-itself Free = refl

-- each state stands once
abbrev are_apart : List (StateId × Bound) → Bool
are_apart [] = true
are_apart (x ∷ xs) = list_all (λ (z : StateId × Bound). not (x.0.0 == z.0.0)) xs && are_apart xs

abbrev same_state : StateId × Bound → StateId × Bound → Bool
same_state p b = b.0.0 == p.0.0

or-none : {X : Type 0} (a b : Option X) → option_or a b ≡ None → (a ≡ None) × (b ≡ None)
or-none None b e = (refl, e)
or-none (Some x) b e = cc

any-append : {X : Type 0} (p : X → Bool) (xs ys : List X) → list_any p (xs ++ ys) ≡ (list_any p xs || list_any p ys)
any-append p [] ys = refl
any-append p (x ∷ xs) ys = grind (arith, any-append p xs ys)

-- no item is like one before the list
new-items : (before xs : List (StateId × Bound)) → answer_behind (twice_at same_state) before xs ≡ None
    → list_all (λ z. not (list_any (same_state z) before)) xs ≡ true
new-items before [] e = refl
new-items before (x ∷ xs) e =
    let parts = or-none (twice_at same_state before x) (answer_behind (twice_at same_state) (before ++ x ∷ []) xs) e in
    let here : list_any (same_state x) before ≡ false = if-some (list_any (same_state x) before) parts.0 in
    let rest = fewer xs (new-items (before ++ x ∷ []) xs parts.1) in
    grind (arith, here, rest)
  where
    if-some : (b : Bool) → (if b then Some (length before) else None) ≡ None → b ≡ false
    if-some true f = cc
    if-some false f = refl

    fewer : (zs : List (StateId × Bound)) → list_all (λ z. not (list_any (same_state z) (before ++ x ∷ []))) zs ≡ true → list_all (λ z. not (list_any (same_state z) before)) zs ≡ true
    fewer [] f = refl
    fewer (z ∷ zs) f =
        let both = any-append (same_state z) before (x ∷ []) in
        let first : list_any (same_state z) (before ++ x ∷ []) ≡ false = grind (arith, f) in
        let this : list_any (same_state z) before ≡ false = grind (arith, both, first) in
        let more = fewer zs (grind (arith, f)) in
        grind (arith, this, more)

apart-items : (before xs : List (StateId × Bound)) → answer_behind (twice_at same_state) before xs ≡ None → are_apart xs ≡ true
apart-items before [] e = refl
apart-items before (x ∷ xs) e =
    let parts = or-none (twice_at same_state before x) (answer_behind (twice_at same_state) (before ++ x ∷ []) xs) e in
    let others = last-item xs (new-items (before ++ x ∷ []) xs parts.1) in
    let rest = apart-items (before ++ x ∷ []) xs parts.1 in
    grind (arith, others, rest)
  where
    last-item : (zs : List (StateId × Bound)) → list_all (λ z. not (list_any (same_state z) (before ++ x ∷ []))) zs ≡ true → list_all (λ (z : StateId × Bound). not (x.0.0 == z.0.0)) zs ≡ true
    last-item [] f = refl
    last-item (z ∷ zs) f =
        let both = any-append (same_state z) before (x ∷ []) in
        let first : list_any (same_state z) (before ++ x ∷ []) ≡ false = grind (arith, f) in
        let this : (x.0.0 == z.0.0) ≡ false = grind (arith, both, first) in
        let more = last-item zs (grind (arith, f)) in
        grind (arith, this, more)

pub apart_states : (m : ModelParts) → fault_of m ≡ None → are_apart m.states ≡ true
apart_states m e =
    let one = (or-none (too_many_states m) _ e).1 in
    let two = (or-none (reserved_state m) _ one).1 in
    let three = (or-none (reserved_transition m) _ two).1 in
    apart-items [] m.states (no-place (twice_place same_state m.states) (or-none (twice_state m) _ three).0)
  where
    no-place : (o : Option ℕ) → fault_at TwiceState o ≡ None → o ≡ None
    no-place None f = refl
    no-place (Some n) f = cc

-- a state's bound among some states
abbrev bound_in : List (StateId × Bound) → StateId → Bound
bound_in xs s = option_map_or (λ p. p.1) (find (λ p. p.0.0 == s.0) xs) Free

first-bound : (x : StateId × Bound) (xs : List (StateId × Bound)) (s : StateId) → (x.0.0 == s.0) ≡ true → bound_in (x ∷ xs) s ≡ x.1
first-bound x xs s is = one (x.0.0 == s.0) is
  where
    one : (b : Bool) → b ≡ true → option_map_or (λ p. p.1) (if b then Some x else find (λ p. p.0.0 == s.0) xs) Free ≡ x.1
    one true f = refl
    one false f = cc

later-bound : (x : StateId × Bound) (xs : List (StateId × Bound)) (s : StateId) → (x.0.0 == s.0) ≡ false → bound_in (x ∷ xs) s ≡ bound_in xs s
later-bound x xs s other = one (x.0.0 == s.0) other
  where
    one : (b : Bool) → b ≡ false → option_map_or (λ p. p.1) (if b then Some x else find (λ p. p.0.0 == s.0) xs) Free ≡ bound_in xs s
    one true f = cc
    one false f = refl

head-same : {X : Type 0} {x y : X} {xs ys : List X} → x ∷ xs ≡ y ∷ ys → x ≡ y
head-same {X} {x} {y} {xs} {ys} e = ap first e
  where
    first : List X → X
    first [] = x
    first (z ∷ zs) = z

pub tail-same : {X : Type 0} {x y : X} {xs ys : List X} → x ∷ xs ≡ y ∷ ys → xs ≡ ys
tail-same {X} {x} {y} {xs} {ys} e = ap rest e
  where
    rest : List X → List X
    rest [] = []
    rest (z ∷ zs) = zs

-- the first state says nothing of the bounds of the others
without-first : (x y : StateId × Bound) (xs ys zs : List (StateId × Bound)) → x.0 ≡ y.0 → list_all (λ (z : StateId × Bound). not (x.0.0 == z.0.0)) zs ≡ true
    → list_all (λ s. is_same_bound (bound_in (x ∷ xs) s) (bound_in (y ∷ ys) s)) (map (λ p. p.0) zs) ≡ true
    → list_all (λ s. is_same_bound (bound_in xs s) (bound_in ys s)) (map (λ p. p.0) zs) ≡ true
without-first x y xs ys [] same apart e = refl
without-first x y xs ys (z ∷ zs) same apart e =
    let one : (x.0.0 == z.0.0) ≡ false = grind (arith, apart) in
    let two : (y.0.0 == z.0.0) ≡ false = ap (λ (t : StateId). t.0 == z.0.0) (sym same) ∙ one in
    let here : is_same_bound (bound_in xs z.0) (bound_in ys z.0) ≡ is_same_bound (bound_in (x ∷ xs) z.0) (bound_in (y ∷ ys) z.0) =
    (λ i. is_same_bound (sym (later-bound x xs z.0 one) i) (sym (later-bound y ys z.0 two) i)) in
    let both = and-both (is_same_bound (bound_in (x ∷ xs) z.0) (bound_in (y ∷ ys) z.0)) (list_all (λ s. is_same_bound (bound_in (x ∷ xs) s) (bound_in (y ∷ ys) s)) (map (λ p. p.0) zs)) e in
    let rest = without-first x y xs ys zs same (grind (arith, apart)) both.1 in
    (λ i. (here ∙ both.0) i && rest i)
  where
    and-both : (a b : Bool) → (a && b) ≡ true → (a ≡ true) × (b ≡ true)
    and-both true b e = (refl, e)
    and-both false b e = cc

same-states : (xs ys : List (StateId × Bound)) → are_apart xs ≡ true → map (λ p. p.0) xs ≡ map (λ p. p.0) ys
    → list_all (λ s. is_same_bound (bound_in xs s) (bound_in ys s)) (map (λ p. p.0) xs) ≡ true → xs ≡ ys
same-states [] [] apart same e = refl
same-states [] (y ∷ ys) apart same e = cc
same-states (x ∷ xs) [] apart same e = cc
same-states (x ∷ xs) (y ∷ ys) apart same e =
    let state : x.0 ≡ y.0 = head-same same in
    let one : (x.0.0 == x.0.0) ≡ true = grind (arith, nat_tests) in
    let two : (y.0.0 == x.0.0) ≡ true = ap (λ (t : StateId). t.0 == x.0.0) (sym state) ∙ one in
    let both = and-both (is_same_bound (bound_in (x ∷ xs) x.0) (bound_in (y ∷ ys) x.0)) (list_all (λ s. is_same_bound (bound_in (x ∷ xs) s) (bound_in (y ∷ ys) s)) (map (λ p. p.0) xs)) e in
    let first : is_same_bound (bound_in (x ∷ xs) x.0) (bound_in (y ∷ ys) x.0) ≡ is_same_bound x.1 y.1 =
    (λ i. is_same_bound (first-bound x xs x.0 one i) (first-bound y ys x.0 two i)) in
    let bound : x.1 ≡ y.1 = bound-same x.1 y.1 (sym first ∙ both.0) in
    let alone = and-both (list_all (λ (z : StateId × Bound). not (x.0.0 == z.0.0)) xs) (are_apart xs) apart in
    let rest = same-states xs ys alone.1 (tail-same same) (without-first x y xs ys xs state alone.0 both.1) in
    (λ i. (state i, bound i) ∷ rest i)
  where
    and-both : (a b : Bool) → (a && b) ≡ true → (a ≡ true) × (b ≡ true)
    and-both true b e = (refl, e)
    and-both false b e = cc

pub same_listed : (a b : ModelParts) → fault_of a ≡ None → states_of a ≡ states_of b → list_all (λ s. is_same_bound (bound_of a s) (bound_of b s)) (states_of a) ≡ true
    → a.states ≡ b.states
same_listed a b sound states bounds = same-states a.states b.states (apart_states a sound) states bounds

-- and states have the bounds that they have
bounds-same : (xs : List (StateId × Bound)) (ss : List StateId) → list_all (λ s. is_same_bound (bound_in xs s) (bound_in xs s)) ss ≡ true
bounds-same xs [] = refl
bounds-same xs (s ∷ ss) = (λ i. bound-itself (bound_in xs s) i && bounds-same xs ss i)

pub listed_same : (a b : ModelParts) → a.states ≡ b.states → list_all (λ s. is_same_bound (bound_of a s) (bound_of b s)) (states_of a) ≡ true
listed_same a b same =
    let P : List (StateId × Bound) → Type 0 = λ ys. list_all (λ s. is_same_bound (bound_in a.states s) (bound_in ys s)) (states_of a) ≡ true in
    subst P same (bounds-same a.states (states_of a))
