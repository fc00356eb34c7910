-- Places in the table.
use Rattle.std.proofs.Common.{◌≡◌, ℕ, suc, zero, ◌+◌, ◌-◌, ◌*◌, ◌^◌, ◌≤◌, ◌<◌, ◌==◌, ◌||◌, Bool, true, false, List, [], ◌∷◌, ◌++◌, length, map, get_or, refl, sym, ap, ◌∙◌, subst, drop, length-append, arith}
use Rattle.std.specs.Prelude.{nat_lt}
use Rattle.std.specs.List.{list_any, flat_map, position_or_len}
use Rattle.std.proofs.Math.ListN.{get_or-append}
use Rattle.std.proofs.Math.Seq.{get_or-append_right}
use Rattle.std.proofs.lemmas.Bool.Decides.{nat_tests}
use Rattle.std.proofs.lemmas.List.{get_or-map, length-map, drop_all}
use Rattle.std.proofs.lemmas.List.Sums.{passes_at_first, prefix_len-le-length}
use Rattle.hx_ids.specs.declared.StateId.{StateId}
use Rattle.hx_model.specs.declared.Bound.{Bound}
use Rattle.hx_model.specs.declared.ModelParts.{ModelParts}
use Rattle.hx_model.specs.Model.{states_of, error, dropped}
use Rattle.hx_hops.specs.declared.Way.{Way}
use Rattle.hx_hops.specs.Hops.{is_from, is_goal}
use Rattle.hx_hops.specs.Table.{way_of, froms_of, goals_of, ways_to, IsTable}

-- the item in a column of a row, where all rows are as long
flat_at : {G A : Type 0} (f : G → List A) (w : ℕ) (same : (g : G) → length (f g) ≡ w) (gs : List G) (i j : ℕ) (d : G) (e : A) → i < length gs → j < w
    → (i * w + j < length (flat_map f gs)) × (get_or (flat_map f gs) (i * w + j) e ≡ get_or (f (get_or gs i d)) j e)
flat_at f w same [] i j d e li lj = absurd (omega arith)
flat_at f w same (g ∷ gs) zero j d e li lj =
    let row = same g in
    let start : zero * w + j ≡ j = omega arith in
    (omega (arith, length-append (f g) (flat_map f gs)), ap (λ k. get_or (f g ++ flat_map f gs) k e) start ∙ get_or-append (f g) (flat_map f gs) e j (omega arith))
flat_at f w same (g ∷ gs) (suc i) j d e li lj =
    let row = same g in
    let more = flat_at f w same gs i j d e (omega arith) lj in
    let next : suc i * w + j ≡ w + (i * w + j) = grind arith in
    let rest : suc i * w + j - length (f g) ≡ i * w + j = omega (arith, next) in (
      omega (arith, next, more.0, length-append (f g) (flat_map f gs)),
      get_or-append_right (f g) (flat_map f gs) (suc i * w + j) e (omega (arith, next)) ∙ ap (λ k. get_or (flat_map f gs) k e) rest ∙ more.1,
    )

any_number : (n : ℕ) (xs : List StateId) → list_any (λ (t : StateId). t.0 == n) xs ≡ nat_lt (position_or_len (λ (t : StateId). t.0 == n) xs) (length xs)
any_number n [] = refl
any_number n (x ∷ xs) = grind (arith, nat_tests, any_number n xs)

state_same : (a b : StateId) → (a.0 == b.0) ≡ true → a ≡ b
state_same a b e = let same : a.0 ≡ b.0 = grind (arith, nat_tests) in ap (λ (n : ℕ). record { 0 = n }) same

-- a state stands at its place, and one more behind the others
last_at : (xs : List StateId) (s last d : StateId) → (list_any (λ (t : StateId). t.0 == s.0) xs || (s.0 == last.0)) ≡ true
    → (position_or_len (λ (t : StateId). t.0 == s.0) xs < length xs + 1) × (get_or (xs ++ last ∷ []) (position_or_len (λ (t : StateId). t.0 == s.0) xs) d ≡ s)
last_at xs s last d e = one (list_any (λ (t : StateId). t.0 == s.0) xs) refl e
  where
    most : position_or_len (λ (t : StateId). t.0 == s.0) xs ≤ length xs
    most = prefix_len-le-length _ xs

    one : (b : Bool) → list_any (λ (t : StateId). t.0 == s.0) xs ≡ b → (b || (s.0 == last.0)) ≡ true
        → (position_or_len (λ (t : StateId). t.0 == s.0) xs < length xs + 1) × (get_or (xs ++ last ∷ []) (position_or_len (λ (t : StateId). t.0 == s.0) xs) d ≡ s)
    one true is h =
        let low : position_or_len (λ (t : StateId). t.0 == s.0) xs < length xs = grind (arith, nat_tests, any_number s.0 xs, is) in
        (omega arith, get_or-append xs (last ∷ []) d _ low ∙ state_same _ s (passes_at_first (λ (t : StateId). t.0 == s.0) xs d low))
    one false is h =
        let end : position_or_len (λ (t : StateId). t.0 == s.0) xs ≡ length xs = grind (arith, nat_tests, any_number s.0 xs, is, most) in
        (omega arith, get_or-append_right xs (last ∷ []) _ d (omega (arith, end)) ∙ ap (λ k. get_or (last ∷ []) k d) (let none : position_or_len (λ (t : StateId). t.0 == s.0) xs - length xs ≡ 0 = omega (arith, end) in none) ∙ sym (state_same s last h))

pub place_end : (s : ℕ) (xs : List StateId) → length xs ≡ length xs + position_or_len (λ (t : StateId). t.0 == s) (drop (length xs) xs)
place_end s xs =
    let none : drop (length xs) xs ≡ [] = drop_all (length xs) xs (omega arith) in
    let P : List StateId → Type 0 = λ v. length xs ≡ length xs + position_or_len (λ (t : StateId). t.0 == s) v in
    subst P (sym none) (omega arith)

pub any_state : (n : ℕ) (xs : List (StateId × Bound)) → list_any (λ (t : StateId). t.0 == n) (map (λ p. p.0) xs) ≡ list_any (λ (p : StateId × Bound). p.0.0 == n) xs
any_state n [] = refl
any_state n (x ∷ xs) = grind (arith, any_state n xs)

-- a way stands in the table at its places
pub looked_up : (m : ModelParts) (places : List ℕ) (width : ℕ) (ways : List Way) (from goal : StateId) (row column : ℕ) (e : Way) → IsTable m places width ways
    → goal.0 < 256 → from.0 < 256 → row ≡ get_or places goal.0 0 → column ≡ get_or places from.0 0 → is_from m from ≡ true → is_goal m goal ≡ true
    → (row * width + column < length ways) × (get_or ways (row * width + column) e ≡ way_of m from goal)
looked_up m places width ways from goal row column e t lg lf r c isf isg =
    let i = position_or_len (λ (t : StateId). t.0 == goal.0) (states_of m) in
    let j = position_or_len (λ (t : StateId). t.0 == from.0) (states_of m) in
    let long : length (states_of m) ≡ length m.states = length-map m.states (λ (p : StateId × Bound). p.0) in
    let first = last_at (states_of m) from error error (ap (λ b. b || (from.0 == 0)) (any_state from.0 m.states) ∙ isf) in
    let last = last_at (states_of m) goal dropped error (ap (λ b. b || (goal.0 == 1)) (any_state goal.0 m.states) ∙ isg) in
    let wide : (g : StateId) → length (ways_to m g) ≡ width = λ g. omega (arith, length-map (froms_of m) (λ s. way_of m s g), length-append (states_of m) (error ∷ []), long, t.wide) in
    let long_goals : length (goals_of m) ≡ length (states_of m) + 1 = omega (arith, length-append (states_of m) (dropped ∷ [])) in
    let at = flat_at (ways_to m) width wide (goals_of m) i j error e (omega (arith, last.0, long_goals)) (omega (arith, first.0, long, t.wide)) in
    let here : row * width + column ≡ i * width + j = (λ k. (r ∙ t.numbered goal.0 lg) k * width + (c ∙ t.numbered from.0 lf) k) in
    let in_row = get_or-map (λ s. way_of m s (get_or (goals_of m) i error)) (froms_of m) j error e (omega (arith, length-append (states_of m) (error ∷ []), first.0)) in
    let is = at.1 ∙ in_row ∙ (λ k. way_of m (first.1 k) (last.1 k)) in
    let P : List Way → Type 0 = λ v. (row * width + column < length v) × (get_or v (row * width + column) e ≡ way_of m from goal) in
    let Q : ℕ → Type 0 = λ n. (n < length (flat_map (ways_to m) (goals_of m))) × (get_or (flat_map (ways_to m) (goals_of m)) n e ≡ way_of m from goal) in
    subst P (sym t.filled) (subst Q (sym here) (at.0, is))

-- its places are small numbers
pub small_place : (row column width : ℕ) → row < 256 → column < 256 → width ≤ 17 → (row * width < 2 ^ 64) × (row * width + column < 2 ^ 64)
small_place row column width lr lc lw =
    let most : row * width ≤ 256 * 17 = grind arith in
    (omega (arith, most), omega (arith, most))

-- the same where the ways are read as another list that is theirs
pub looked_up_in : (m : ModelParts) (places : List ℕ) (width : ℕ) (ways items : List Way) (from goal : StateId) (row column : ℕ) (e : Way) → items ≡ ways → IsTable m places width ways
    → goal.0 < 256 → from.0 < 256 → row ≡ get_or places goal.0 0 → column ≡ get_or places from.0 0 → is_from m from ≡ true → is_goal m goal ≡ true
    → (row * width + column < length items) × (get_or items (row * width + column) e ≡ way_of m from goal)
looked_up_in m places width ways items from goal row column e are t lg lf r c isf isg =
    let P : List Way → Type 0 = λ v. (row * width + column < length v) × (get_or v (row * width + column) e ≡ way_of m from goal) in
    subst P (sym are) (looked_up m places width ways from goal row column e t lg lf r c isf isg)
