-- Tests of lists.
use Rattle.std.proofs.Common.{◌≡◌, ℕ, zero, suc, ◌+◌, ◌<◌, ◌≤◌, ◌&&◌, ◌||◌, ◌==◌, Bool, true, false, List, [], ◌∷◌, map, length, drop, get_or, Some, refl, ap, sym, ◌∙◌, subst, arith}
use Rattle.std.specs.Prelude.{slice_get}
use Rattle.std.specs.Option.{option_map}
use Rattle.std.specs.List.{list_any, list_all}
use Rattle.std.proofs.lemmas.Bool.Decides.{nat_tests}
use Rattle.std.proofs.lemmas.List.{drop_all}
use Rattle.hx_lists.specs.Lists.{numbers_from, numbers_below}
use Rattle.hx_safe.proofs.Ends.{same-self}
use Rattle.hx_agree.specs.Tests.{are_in_order}
use Rattle.hx_safe.proofs.Counting.{and-first, and-second, and-both}

-- the items from a place on, by what they have
drop-item : {X Y : Type 0} (f : X → Y) (p : Y → Bool) (xs : List X) (k : ℕ) (y : Y) → option_map f (slice_get xs k) ≡ Some y
    → list_all (λ x. p (f x)) (drop k xs) ≡ (p y && list_all (λ x. p (f x)) (drop (suc k) xs))
drop-item f p [] k y e = cc
drop-item f p (x ∷ xs) zero y e = let same : f x ≡ y = cc in ap (λ z. p z && list_all (λ x. p (f x)) xs) same
drop-item f p (x ∷ xs) (suc k) y e = drop-item f p xs k y e

pub all_dropped : {X Y : Type 0} (f : X → Y) (p : Y → Bool) (xs : List X) (k : ℕ) (y : Y) → option_map f (slice_get xs k) ≡ Some y
    → list_all (λ x. p (f x)) (drop k xs) ≡ (p y && list_all (λ x. p (f x)) (drop (k + 1) xs))
all_dropped f p xs k y e =
    let more : suc k ≡ k + 1 = omega arith in
    drop-item f p xs k y e ∙ ap (λ (n : ℕ). p y && list_all (λ x. p (f x)) (drop n xs)) more

pub from-all : {X : Type 0} (p : X → Bool) (xs : List X) → ((x : X) → p x ≡ true) → list_all p xs ≡ true
from-all p [] h = refl
from-all p (x ∷ xs) h = and-both (p x) (list_all p xs) (h x) (from-all p xs h)

-- a test of what each item has
pub any_mapped : {X Y : Type 0} (f : X → Y) (p : Y → Bool) (xs : List X) → list_any p (map f xs) ≡ list_any (λ x. p (f x)) xs
any_mapped f p [] = refl
any_mapped f p (x ∷ xs) = ap (λ b. p (f x) || b) (any_mapped f p xs)

-- numbers in order
order_is : (n : ℕ) (xs : List ℕ) → are_in_order n xs ≡ true → xs ≡ numbers_from n (length xs)
order_is n [] e = refl
order_is n (x ∷ xs) e =
    let here : x ≡ n = let same = and-first (x == n) (are_in_order (n + 1) xs) e in grind (arith, nat_tests, same) in
    let rest : xs ≡ numbers_from (n + 1) (length xs) = order_is (n + 1) xs (and-second (x == n) (are_in_order (n + 1) xs) e) in
    (λ i. here i ∷ rest i)

is_order : (a n : ℕ) → are_in_order a (numbers_from a n) ≡ true
is_order a zero = refl
is_order a (suc n) = and-both (a == a) (are_in_order (a + 1) (numbers_from (a + 1) n)) (same-self a) (is_order (a + 1) n)

many_from : (a n : ℕ) → length (numbers_from a n) ≡ n
many_from a zero = refl
many_from a (suc n) = ap suc (many_from (a + 1) n)

many-map : {X Y : Type 0} (f : X → Y) (xs : List X) → length (map f xs) ≡ length xs
many-map f [] = refl
many-map f (x ∷ xs) = ap suc (many-map f xs)

pub in_order_numbers : {X : Type 0} (f : X → ℕ) (xs : List X) (n : ℕ) → ((length xs == n) && are_in_order 0 (map f xs)) ≡ true → map f xs ≡ numbers_below n
in_order_numbers f xs n e =
    let long : length xs ≡ n = let same = and-first (length xs == n) (are_in_order 0 (map f xs)) e in grind (arith, nat_tests, same) in
    order_is 0 (map f xs) (and-second (length xs == n) (are_in_order 0 (map f xs)) e) ∙ ap (numbers_from 0) (many-map f xs ∙ long)

pub numbers_in_order : {X : Type 0} (f : X → ℕ) (xs : List X) (n : ℕ) → map f xs ≡ numbers_below n → ((length xs == n) && are_in_order 0 (map f xs)) ≡ true
numbers_in_order f xs n e =
    let long : length xs ≡ n = sym (many-map f xs) ∙ ap length e ∙ many_from 0 n in
    and-both (length xs == n) (are_in_order 0 (map f xs)) (subst (λ (k : ℕ). (length xs == k) ≡ true) long (same-self (length xs)))
    (subst (λ (ys : List ℕ). are_in_order 0 ys ≡ true) (sym e) (is_order 0 n))

-- the number of the item in a place
order-item : {X : Type 0} (f : X → ℕ) (xs : List X) (k n : ℕ) (d : X) → k < length xs
    → are_in_order n (map f (drop k xs)) ≡ ((f (get_or xs k d) == n) && are_in_order (n + 1) (map f (drop (suc k) xs)))
order-item f [] k n d lt = absurd (omega arith)
order-item f (x ∷ xs) zero n d lt = refl
order-item f (x ∷ xs) (suc k) n d lt = order-item f xs k n d (omega arith)

pub order_dropped : {X : Type 0} (f : X → ℕ) (xs : List X) (k n : ℕ) (d : X) → k < length xs
    → are_in_order n (map f (drop k xs)) ≡ ((f (get_or xs k d) == n) && are_in_order (n + 1) (map f (drop (k + 1) xs)))
order_dropped f xs k n d lt =
    let more : suc k ≡ k + 1 = omega arith in
    order-item f xs k n d lt ∙ ap (λ (j : ℕ). (f (get_or xs k d) == n) && are_in_order (n + 1) (map f (drop j xs))) more

pub order_end : {X : Type 0} (f : X → ℕ) (xs : List X) (k n : ℕ) → length xs ≤ k → are_in_order n (map f (drop k xs)) ≡ true
order_end f xs k n le = ap (λ (ys : List _). are_in_order n (map f ys)) (drop_all k xs le)

pub all_end : {X : Type 0} (p : X → Bool) (xs : List X) (k : ℕ) → length xs ≤ k → list_all p (drop k xs) ≡ true
all_end p xs k le = ap (λ (ys : List _). list_all p ys) (drop_all k xs le)

-- a test of a list, of which the items from a place on are left: the item there fails, or passes
pub first_fails : {X Y : Type 0} (f : X → Y) (p : Y → Bool) (xs : List X) (k : ℕ) (y : Y) (whole : Bool) → option_map f (slice_get xs k) ≡ Some y
    → whole ≡ list_all (λ x. p (f x)) (drop k xs) → p y ≡ false → false ≡ whole
first_fails f p xs k y whole here e fails = sym (e ∙ all_dropped f p xs k y here ∙ ap (λ b. b && list_all (λ x. p (f x)) (drop (k + 1) xs)) fails)

pub first_passes : {X Y : Type 0} (f : X → Y) (p : Y → Bool) (xs : List X) (k : ℕ) (y : Y) (whole : Bool) → option_map f (slice_get xs k) ≡ Some y
    → whole ≡ list_all (λ x. p (f x)) (drop k xs) → p y ≡ true → whole ≡ list_all (λ x. p (f x)) (drop (k + 1) xs)
first_passes f p xs k y whole here e passes = e ∙ all_dropped f p xs k y here ∙ ap (λ b. b && list_all (λ x. p (f x)) (drop (k + 1) xs)) passes
