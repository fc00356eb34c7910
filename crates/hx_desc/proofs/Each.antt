-- What holds of each item of a list, and lists whose items each stand once.
use Rattle.std.proofs.Common.{◌≡◌, Bool, true, false, not, List, [], ◌∷◌, ◌++◌, refl}
use Rattle.std.specs.Prelude.{◌==◌, ◌&&◌, ◌||◌}
use Rattle.std.specs.List.{list_all, list_any, IsDistinct, AllByRecursion}
use Rattle.std.proofs.lemmas.Map.Keys.{IsDistinct-head, IsDistinct-tail, IsDistinct-cons}
use Rattle.hx_lists.specs.Lists.{count}
use Rattle.hx_cluster.specs.Valid.{are_distinct}

pub each-append : {X : Type 0} (P : X → Type 0) (xs : List X) (x : X) → AllByRecursion P xs → P x → AllByRecursion P (xs ++ x ∷ [])
each-append P [] x all here = (here, tt)
each-append P (y ∷ ys) x all here = (all.0, each-append P ys x all.1 here)

pub each_so : {X : Type 0} (P Q : X → Type 0) → ((x : X) → P x → Q x) → (xs : List X) → AllByRecursion P xs → AllByRecursion Q xs
each_so P Q so [] all = tt
each_so P Q so (x ∷ xs) all = (so x all.0, each_so P Q so xs all.1)

-- a test that holds of each item
pub each_test : {X : Type 0} (P : X → Type 0) (test : X → Bool) → ((x : X) → P x → test x ≡ true) → (xs : List X) → AllByRecursion P xs → list_all test xs ≡ true
each_test P test holds [] all = refl
each_test P test holds (x ∷ xs) all = rw (holds x all.0) (each_test P test holds xs all.1)

pub both_true : (a b : Bool) → a ≡ true → b ≡ true → (a && b) ≡ true
both_true a b here there = rw (here, there) refl

-- no item passes a test that each fails
none_counted : {X : Type 0} (test : X → Bool) (xs : List X) → AllByRecursion (λ y. test y ≡ false) xs → count test xs ≡ 0
none_counted test [] all = refl
none_counted test (x ∷ xs) all = rw all.0 (none_counted test xs all.1)

-- a test that holds of items for which two facts hold
both_tests : {X : Type 0} (one other : X → Bool) (P : X → Type 0) → ((x : X) → one x ≡ true → P x → other x ≡ true) → (xs : List X) → list_all one xs ≡ true → AllByRecursion P xs → list_all other xs ≡ true
both_tests one other P so [] all each = refl
both_tests one other P so (x ∷ xs) all each = split (one x) refl all (λ there. both_tests one other P so xs there each.1)
  where
    split : (b : Bool) → one x ≡ b → (b && list_all one xs) ≡ true → (list_all one xs ≡ true → list_all other xs ≡ true) → (other x && list_all other xs) ≡ true
    split true here there later = rw (so x here each.0) (later there)
    split false here there later = cc

-- items of which none equals one after it each stand once
pub distinct_once : {X : Type 0} (same : X → X → Bool) → ((x : X) → same x x ≡ true) → ((x y : X) → same x y ≡ false → same y x ≡ false) → (xs : List X) → IsDistinct same xs → are_distinct same xs ≡ true
distinct_once same self flips [] distinct = refl
distinct_once same self flips (x ∷ xs) distinct =
    let apart = IsDistinct-head same x xs distinct in
    both_true _ _ first (both_tests (λ y. count (same y) xs == 1) (λ y. count (same y) (x ∷ xs) == 1) (λ y. same x y ≡ false) (λ y once other. later y once (flips x y other)) xs (distinct_once same self flips xs (IsDistinct-tail same x xs distinct)) apart)
  where
    first : (count (same x) (x ∷ xs) == 1) ≡ true
    first = let none = none_counted (same x) xs (IsDistinct-head same x xs distinct) in rw (self x, none) refl

    later : (y : _) → (count (same y) xs == 1) ≡ true → same y x ≡ false → (count (same y) (x ∷ xs) == 1) ≡ true
    later y once other = rw other once

neither_true : (a b : Bool) → (a || b) ≡ false → (a ≡ false) × (b ≡ false)
neither_true true b is = cc
neither_true false b is = (refl, is)

-- one more item, which equals none of them
pub distinct-append : {X : Type 0} (same : X → X → Bool) → ((x y : X) → same x y ≡ false → same y x ≡ false) → (xs : List X) (y : X) → IsDistinct same xs → list_any (same y) xs ≡ false → IsDistinct same (xs ++ y ∷ [])
distinct-append same flips [] y distinct new = IsDistinct-cons same y [] tt distinct
distinct-append same flips (x ∷ xs) y distinct new =
    let apart = neither_true (same y x) (list_any (same y) xs) new in
    IsDistinct-cons same x (xs ++ y ∷ []) (each-append (λ z. same x z ≡ false) xs y (IsDistinct-head same x xs distinct) (flips y x apart.0))
    (distinct-append same flips xs y (IsDistinct-tail same x xs distinct) apart.1)

both_from : (a b : Bool) → (a && b) ≡ true → (a ≡ true) × (b ≡ true)
both_from true b is = (refl, is)
both_from false b is = cc

-- a test that computes
pub each_passes : {X : Type 0} (test : X → Bool) (xs : List X) → list_all test xs ≡ true → AllByRecursion (λ x. test x ≡ true) xs
each_passes test [] is = tt
each_passes test (x ∷ xs) is = let both = both_from (test x) (list_all test xs) is in (both.0, each_passes test xs both.1)

abbrev pub are_apart : {X : Type 0} → (X → X → Bool) → List X → Bool
are_apart same [] = true
are_apart same (x ∷ xs) = list_all (λ y. not (same x y)) xs && are_apart same xs

pub distinct_passes : {X : Type 0} (same : X → X → Bool) (xs : List X) → are_apart same xs ≡ true → IsDistinct same xs
unfolding IsDistinct
distinct_passes same [] is = tt
distinct_passes same (x ∷ xs) is =
    let both = both_from (list_all (λ y. not (same x y)) xs) (are_apart same xs) is in
    (each_so (λ y. not (same x y) ≡ true) (λ y. same x y ≡ false) (λ y other. no (same x y) other) xs (each_passes (λ y. not (same x y)) xs both.0), distinct_passes same xs both.1)
  where
    no : (b : Bool) → not b ≡ true → b ≡ false
    no true is = cc
    no false is = refl
