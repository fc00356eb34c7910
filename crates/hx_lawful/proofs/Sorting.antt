-- What a list in order has of the list that was put in order, and items of lists in which each stands once.
use Rattle.std.proofs.Common.{◌≡◌, ◌≤◌, ◌==◌, not, Bool, true, false, List, [], ◌∷◌, filter, find, Some, refl, ◌∙◌, arith}
use Rattle.std.specs.Prelude.{if◌then◌else◌}
use Rattle.std.specs.List.{list_any, list_all}
use Rattle.std.proofs.lemmas.Bool.Decides.{nat_tests}
use Rattle.hx_lists.specs.Lists.{count, insert_by, sort_by}
use Rattle.hx_safe.proofs.Counting.{count-insert, all-insert, all-le, any-count}
use Rattle.hx_safe.proofs.Ends.{find-insert_other, find-insert_here}

pub count-sort : {X : Type 0} (p : X → Bool) (before : X → X → Bool) (xs : List X) → count p (sort_by before xs) ≡ count p xs
count-sort p before [] = refl
count-sort p before (x ∷ xs) = grind (arith, count-insert p before x (sort_by before xs), count-sort p before xs)

pub all-sort : {X : Type 0} (p : X → Bool) (before : X → X → Bool) (xs : List X) → list_all p (sort_by before xs) ≡ list_all p xs
all-sort p before [] = refl
all-sort p before (x ∷ xs) = grind (arith, all-insert p before x (sort_by before xs), all-sort p before xs)

any-none : {X : Type 0} (p : X → Bool) (xs : List X) → count p xs ≤ 0 → list_any p xs ≡ false
any-none p [] e = refl
any-none p (x ∷ xs) e = grind (arith, e, any-none p xs)

-- the one that passes a test is found in any order
pub find-sort : {X : Type 0} (q : X → Bool) (before : X → X → Bool) (xs : List X) → count q xs ≤ 1 → find q (sort_by before xs) ≡ find q xs
find-sort q before [] one = refl
find-sort {X} q before (x ∷ xs) one = split (q x) refl (find-sort q before xs)
  where
    split : (b : Bool) → q x ≡ b → (count q xs ≤ 1 → find q (sort_by before xs) ≡ find q xs)
        → find q (insert_by before x (sort_by before xs)) ≡ (if b then Some x else find q xs)
    split true is rest =
        let few : count q (sort_by before xs) ≤ 0 = grind (arith, one, is, count-sort q before xs) in
        find-insert_here q before x (sort_by before xs) is (any-none q (sort_by before xs) few)
    split false is rest =
        let few : count q xs ≤ 1 = grind (arith, one, is) in
        find-insert_other q before x (sort_by before xs) is ∙ rest few

-- each item is found in its list by a test that it passes itself
pub each_there : {X : Type 0} (same : X → X → Bool) → ((x : X) → same x x ≡ true) → (xs : List X) → list_all (λ x. list_any (same x) xs) xs ≡ true
each_there same self [] = refl
each_there same self (x ∷ xs) =
    let rest = all-le (λ y. list_any (same y) xs) (λ y. list_any (same y) (x ∷ xs)) (λ y e. grind (arith, e)) xs (each_there same self xs) in
    grind (arith, self x, rest)

-- so where at most one passes, exactly one does
pub exactly : {X : Type 0} (p : X → Bool) (xs : List X) → list_any p xs ≡ true → count p xs ≤ 1 → (count p xs == 1) ≡ true
exactly p xs there most = grind (arith, nat_tests, any-count p xs there, most)

-- what a filter leaves passes it
pub all-passed : {X : Type 0} (k : X → Bool) (xs : List X) → list_all k (filter k xs) ≡ true
all-passed k [] = refl
all-passed k (x ∷ xs) = grind (arith, all-passed k xs)

-- none passes what each fails
pub none-all : {X : Type 0} (q : X → Bool) (xs : List X) → list_any q xs ≡ false → list_all (λ x. not (q x)) xs ≡ true
none-all q [] e = refl
none-all q (x ∷ xs) e = grind (arith, e, none-all q xs)
