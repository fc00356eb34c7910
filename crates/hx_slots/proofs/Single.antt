-- Counts over lists that differ in one item, or in none.
use Rattle.std.proofs.Common.{◌≡◌, ◌+◌, ◌≤◌, not, Bool, true, false, List, [], ◌∷◌, filter, find, Some, refl, arith}
use Rattle.std.specs.Prelude.{if◌then◌else◌}
use Rattle.std.specs.List.{list_any, list_all}
use Rattle.hx_lists.specs.Lists.{count}

-- tests that agree
pub count-same : {X : Type 0} (p q : X → Bool) → ((x : X) → p x ≡ q x) → (xs : List X) → count p xs ≡ count q xs
count-same p q h [] = refl
count-same p q h (x ∷ xs) = grind (arith, h x, count-same p q h xs)

-- on what is known of each item
pub count-known : {X : Type 0} (p q a : X → Bool) → ((x : X) → a x ≡ true → p x ≡ q x) → (xs : List X) → list_all a xs ≡ true → count p xs ≡ count q xs
count-known p q a h [] e = refl
count-known p q a h (x ∷ xs) e = grind (arith, e, h x, count-known p q a h xs)

-- on all items but one, which isn't there
pub count-others : {X : Type 0} (p q one : X → Bool) → ((x : X) → one x ≡ false → p x ≡ q x) → (xs : List X) → count one xs ≤ 0 → count p xs ≡ count q xs
count-others p q one h [] none = refl
count-others p q one h (x ∷ xs) none = grind (arith, none, h x, count-others p q one h xs)

-- or which is there once
pub count-one : {X : Type 0} (p q one : X → Bool) (a b : Bool) → ((x : X) → one x ≡ false → p x ≡ q x) → ((x : X) → one x ≡ true → p x ≡ a) → ((x : X) → one x ≡ true → q x ≡ b)
    → (xs : List X) → count one xs ≤ 1 → list_any one xs ≡ true → count q xs + (if a then 1 else 0) ≡ count p xs + (if b then 1 else 0)
count-one p q one a b h old new [] most there = cc
count-one p q one a b h old new (x ∷ xs) most there = grind (arith, most, there, h x, old x, new x, count-others p q one h xs, count-one p q one a b h old new xs)

-- items that are taken out and pass no test
pub count-filter_same : {X : Type 0} (p k : X → Bool) → ((x : X) → k x ≡ false → p x ≡ false) → (xs : List X) → count p (filter k xs) ≡ count p xs
count-filter_same p k h [] = refl
count-filter_same p k h (x ∷ xs) = grind (arith, h x, count-filter_same p k h xs)

-- none is taken out
pub count-whole : {X : Type 0} (p q : X → Bool) (xs : List X) → count q xs ≤ 0 → count p (filter (λ x. not (q x)) xs) ≡ count p xs
count-whole p q [] none = refl
count-whole p q (x ∷ xs) none = grind (arith, none, count-whole p q xs)

-- or one is
pub count-without : {X : Type 0} (p q : X → Bool) (xs : List X) (m : X) → find q xs ≡ Some m → count q xs ≤ 1
    → count p (filter (λ x. not (q x)) xs) + (if p m then 1 else 0) ≡ count p xs
count-without p q [] m e most = cc
count-without p q (x ∷ xs) m e most = grind (arith, e, most, count-whole p q xs, count-without p q xs m)

-- what is found stays where what is known of each item says that it isn't taken out
pub find-filter_known : {X : Type 0} (q k a : X → Bool) → ((x : X) → a x ≡ true → q x ≡ true → k x ≡ true) → (xs : List X) → list_all a xs ≡ true
    → find q (filter k xs) ≡ find q xs
find-filter_known q k a h [] e = refl
find-filter_known q k a h (x ∷ xs) e = grind (arith, e, h x, find-filter_known q k a h xs)

-- what is found among those that are kept was kept
pub find-kept : {X : Type 0} (q k : X → Bool) (xs : List X) (x : X) → find q (filter k xs) ≡ Some x → k x ≡ true
find-kept q k [] x e = cc
find-kept q k (y ∷ xs) x e = grind (arith, e, find-kept q k xs x)
