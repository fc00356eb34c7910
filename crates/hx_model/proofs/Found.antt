-- Tests that find nothing.
use Rattle.std.proofs.Common.{◌≡◌, ℕ, suc, zero, ◌+◌, ◌≤◌, ◌<◌, ◌==◌, not, Bool, true, false, List, [], ◌∷◌, ◌++◌, length, find, position, Option, Some, None, refl, sym, ap, ◌∙◌, true≢false, arith}
use Rattle.std.specs.Prelude.{if◌then◌else◌, nat_lt}
use Rattle.std.specs.List.{list_any, list_all, prefix_len}
use Rattle.std.specs.Option.{option_or}
use Rattle.std.proofs.lemmas.Bool.Decides.{nat_tests}
use Rattle.hx_ids.specs.declared.StateId.{StateId}
use Rattle.hx_lists.specs.First.{answer_behind}
use Rattle.hx_model.specs.declared.ModelFault.{ModelFault}
use Rattle.hx_model.specs.declared.ModelParts.{ModelParts}
use Rattle.hx_model.specs.Faults.{found_by, twice_at}
use Rattle.hx_model.specs.Walks.{has_walk, least_from, dist, reaches}

-- none of some tests finds a fault
abbrev pub FindNone : List (ModelParts → Option ModelFault) → ModelParts → Type 0
FindNone [] m = Unit {0}
FindNone (test ∷ tests) m = (test m ≡ None) × FindNone tests m

pub found_none : (tests : List (ModelParts → Option ModelFault)) (m : ModelParts) → FindNone tests m → found_by tests m ≡ None
found_none [] m h = refl
found_none (test ∷ tests) m h = ap (λ o. option_or o (found_by tests m)) h.0 ∙ found_none tests m h.1

all_pass : {X : Type 0} (p : X → Bool) (xs : List X) → list_all p xs ≡ true → prefix_len p xs ≡ length xs
all_pass p [] e = refl
all_pass p (x ∷ xs) e = grind (arith, e, all_pass p xs)

-- no item passes
pub position_none : {X : Type 0} (p : X → Bool) (xs : List X) → list_all (λ x. not (p x)) xs ≡ true → position p xs ≡ None
position_none p xs e = let end = all_pass (λ x. not (p x)) xs e in grind (arith, nat_tests, end)

pub find_none : {X : Type 0} (p : X → Bool) (xs : List X) → list_all (λ x. not (p x)) xs ≡ true → find p xs ≡ None
find_none p [] e = refl
find_none p (x ∷ xs) e = grind (arith, e, find_none p xs)

-- each item is new
abbrev pub AreApart : {X : Type 0} → (X → X → Bool) → List X → List X → Type 0
AreApart same before [] = Unit {0}
AreApart same before (x ∷ xs) = (list_any (same x) before ≡ false) × AreApart same (before ++ x ∷ []) xs

pub twice_none : {X : Type 0} (same : X → X → Bool) (before xs : List X) → AreApart same before xs → answer_behind (twice_at same) before xs ≡ None
twice_none same before [] h = refl
twice_none same before (x ∷ xs) h = ap (λ (b : Bool). option_or (if b then Some (length before) else None) (answer_behind (twice_at same) (before ++ x ∷ []) xs)) h.0 ∙ twice_none same (before ++ x ∷ []) xs h.1

least_le : (p : ℕ → Bool) (n few k : ℕ) → n ≤ k → k < n + few → p k ≡ true → least_from p n few ≤ k
least_le p n zero k low high e = absurd (omega arith)
least_le p n (suc few) k low high e = one (p n) refl (least_le p (n + 1) few k)
  where
    one : (b : Bool) → p n ≡ b → (n + 1 ≤ k → k < n + 1 + few → p k ≡ true → least_from p (n + 1) few ≤ k) → (if b then n else least_from p (n + 1) few) ≤ k
    one true is more = low
    one false is more = more (above (nat_lt n k) refl) (omega arith) e
      where
        above : (c : Bool) → nat_lt n k ≡ c → n + 1 ≤ k
        above true h = grind (arith, nat_tests)
        above false h = let same : k ≡ n = grind (arith, nat_tests) in absurd (true≢false (sym e ∙ ap p same ∙ is))

-- a walk is no shorter than the distance
pub dist-le : (m : ModelParts) (n : ℕ) (s goal : StateId) → n < length m.states + 2 → has_walk m n s goal ≡ true → dist m s goal ≤ n
dist-le m n s goal lt w = least_le (λ k. has_walk m k s goal) 0 (length m.states + 2) n (omega arith) (omega arith) w

pub reaches_by : (m : ModelParts) (n : ℕ) (s goal : StateId) → n < length m.states + 2 → has_walk m n s goal ≡ true → reaches m s goal ≡ true
reaches_by m n s goal lt w = let le = dist-le m n s goal lt w in is_below (dist m s goal) n (length m.states + 2) le lt
  where
    is_below : (d n k : ℕ) → d ≤ n → n < k → nat_lt d k ≡ true
    is_below d n k a b = grind (arith, nat_tests)

pub eqb-same : (n : ℕ) → (n == n) ≡ true
eqb-same n = grind (arith, nat_tests)
