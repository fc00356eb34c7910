-- Laws of sums over lists that are put together, filtered and put in order.
use Rattle.std.proofs.Common.{◌≡◌, ℕ, zero, suc, ◌+◌, ◌*◌, Bool, true, false, List, [], ◌∷◌, length, map, filter, refl, sym, ap, ◌∙◌, zero-mul, add-mul, suc-mul, add_comm, length-append, arith}
use Rattle.std.specs.Prelude.{if◌then◌else◌, slice_get, Option, Some}
use Rattle.std.specs.List.{flat_map, sum_by, All}
use Rattle.std.proofs.lemmas.List.Sums.{sum_by-cons, sum_by-append}
use Rattle.std.proofs.lemmas.List.Elements.{All-head, All-tail}
use Rattle.hx_lists.specs.Lists.{count, insert_by, sort_by, numbers_from, numbers_below}

pub sum-map : {X Y : Type 0} (f : Y → ℕ) (g : X → Y) (xs : List X) → sum_by f (map g xs) ≡ sum_by (λ x. f (g x)) xs
sum-map f g [] = refl
sum-map f g (x ∷ xs) = sum_by-cons f (g x) (map g xs) ∙ ap (λ n. f (g x) + n) (sum-map f g xs) ∙ sym (sum_by-cons (λ y. f (g y)) x xs)

pub sum-flat : {X Y : Type 0} (f : Y → ℕ) (g : X → List Y) (xs : List X) → sum_by f (flat_map g xs) ≡ sum_by (λ x. sum_by f (g x)) xs
sum-flat f g [] = refl
sum-flat f g (x ∷ xs) = sum_by-append f (g x) (flat_map g xs) ∙ ap (λ n. sum_by f (g x) + n) (sum-flat f g xs) ∙ sym (sum_by-cons (λ y. sum_by f (g y)) x xs)

-- what is left out adds nothing
pub sum-filter : {X : Type 0} (f : X → ℕ) (k : X → Bool) → ((x : X) → k x ≡ false → f x ≡ 0) → (xs : List X) → sum_by f (filter k xs) ≡ sum_by f xs
sum-filter f k none [] = refl
sum-filter {X} f k none (x ∷ xs) = one (k x) refl (sum-filter f k none xs)
  where
    one : (b : Bool) → k x ≡ b → sum_by f (filter k xs) ≡ sum_by f xs → sum_by f (if b then x ∷ filter k xs else filter k xs) ≡ sum_by f (x ∷ xs)
    one true is rest = sum_by-cons f x (filter k xs) ∙ ap (λ n. f x + n) rest ∙ sym (sum_by-cons f x xs)
    one false is rest = let whole = sum_by-cons f x xs in let zero_here = none x is in omega (arith, rest, whole, zero_here)

sum-insert : {X : Type 0} (f : X → ℕ) (before : X → X → Bool) (x : X) (xs : List X) → sum_by f (insert_by before x xs) ≡ f x + sum_by f xs
sum-insert f before x [] = omega arith
sum-insert {X} f before x (y ∷ xs) = one (before y x) (sum-insert f before x xs)
  where
    one : (b : Bool) → sum_by f (insert_by before x xs) ≡ f x + sum_by f xs → sum_by f (if b then y ∷ insert_by before x xs else x ∷ y ∷ xs) ≡ f x + sum_by f (y ∷ xs)
    one true rest = let first = sum_by-cons f y (insert_by before x xs) in let whole = sum_by-cons f y xs in omega (arith, rest, first, whole)
    one false rest = sum_by-cons f x (y ∷ xs)

pub sum-sort : {X : Type 0} (f : X → ℕ) (before : X → X → Bool) (xs : List X) → sum_by f (sort_by before xs) ≡ sum_by f xs
sum-sort f before [] = refl
sum-sort f before (x ∷ xs) = sum-insert f before x (sort_by before xs) ∙ ap (λ n. f x + n) (sum-sort f before xs) ∙ sym (sum_by-cons f x xs)

-- sums of the same, and of what differs at some
pub sum-same : {X : Type 0} (f g : X → ℕ) → ((x : X) → f x ≡ g x) → (xs : List X) → sum_by f xs ≡ sum_by g xs
sum-same f g same xs = λ i. sum_by (λ x. same x i) xs

pub sum-all : {X : Type 0} (f g : X → ℕ) (xs : List X) → All (λ x. f x ≡ g x) xs → sum_by f xs ≡ sum_by g xs
sum-all f g [] all = refl
sum-all f g (x ∷ xs) all =
    sum_by-cons f x xs ∙ (λ i. All-head (λ y. f y ≡ g y) x xs all i + sum-all f g xs (All-tail (λ y. f y ≡ g y) x xs all) i) ∙ sym (sum_by-cons g x xs)

-- where the first is more by a number at the items that pass a test
pub sum-more : {X : Type 0} (f g : X → ℕ) (q : X → Bool) (d : ℕ) (xs : List X) → All (λ x. f x ≡ g x + (if q x then d else 0)) xs → count q xs ≡ 1 → sum_by f xs ≡ sum_by g xs + d
sum-more {X} f g q d [] all one = absurd (omega (arith, one))
sum-more {X} f g q d (x ∷ xs) all once =
    two (q x) refl (All-head (λ y. f y ≡ g y + (if q y then d else 0)) x xs all) once
    (sum-more f g q d xs (All-tail (λ y. f y ≡ g y + (if q y then d else 0)) x xs all)) (rest xs (All-tail (λ y. f y ≡ g y + (if q y then d else 0)) x xs all))
  where
    rest : (ys : List X) → All (λ y. f y ≡ g y + (if q y then d else 0)) ys → count q ys ≡ 0 → sum_by f ys ≡ sum_by g ys
    rest [] all none = refl
    rest (y ∷ ys) all none =
        let tail = rest ys (All-tail (λ z. f z ≡ g z + (if q z then d else 0)) y ys all) in
        at (q y) refl (All-head (λ z. f z ≡ g z + (if q z then d else 0)) y ys all) none tail
      where
        at : (b : Bool) → q y ≡ b → f y ≡ g y + (if b then d else 0) → length (if b then y ∷ filter q ys else filter q ys) ≡ 0 → (count q ys ≡ 0 → sum_by f ys ≡ sum_by g ys)
            → sum_by f (y ∷ ys) ≡ sum_by g (y ∷ ys)
        at true is here none tail = absurd (omega (arith, none))
        at false is here none tail =
            let more = tail none in
            let first = sum_by-cons f y ys in
            let second = sum_by-cons g y ys in
            omega (arith, here, more, first, second)

    two : (b : Bool) → q x ≡ b → f x ≡ g x + (if b then d else 0) → length (if b then x ∷ filter q xs else filter q xs) ≡ 1 → (count q xs ≡ 1 → sum_by f xs ≡ sum_by g xs + d)
        → (count q xs ≡ 0 → sum_by f xs ≡ sum_by g xs) → sum_by f (x ∷ xs) ≡ sum_by g (x ∷ xs) + d
    two true is here once more none =
        let few : count q xs ≡ 0 = omega (arith, once) in
        let same = none few in
        let first = sum_by-cons f x xs in
        let second = sum_by-cons g x xs in
        omega (arith, here, same, first, second)
    two false is here once more none =
        let same = more once in
        let first = sum_by-cons f x xs in
        let second = sum_by-cons g x xs in
        omega (arith, here, same, first, second)

-- the numbers of a list's places
shifted : (h : ℕ → ℕ) (a n : ℕ) → sum_by h (numbers_from (a + 1) n) ≡ sum_by (λ k. h (k + 1)) (numbers_from a n)
shifted h a zero = refl
shifted h a (suc n) =
    sum_by-cons h (a + 1) (numbers_from (a + 1 + 1) n) ∙ ap (λ m. h (a + 1) + m) (shifted h (a + 1) n) ∙ sym (sum_by-cons (λ k. h (k + 1)) a (numbers_from (a + 1) n))

pub sum-places : {X : Type 0} (f : Option X → ℕ) (xs : List X) → sum_by (λ n. f (slice_get xs n)) (numbers_below (length xs)) ≡ sum_by (λ x. f (Some x)) xs
sum-places f [] = refl
sum-places {X} f (x ∷ xs) =
    sum_by-cons (λ n. f (slice_get (x ∷ xs) n)) 0 (numbers_from 1 (length xs))
    ∙ ap (λ n. f (Some x) + n) (shifted (λ n. f (slice_get (x ∷ xs) n)) 0 (length xs) ∙ sum-same (λ n. f (slice_get (x ∷ xs) (n + 1))) (λ n. f (slice_get xs n)) next (numbers_below (length xs)) ∙ sum-places f xs)
    ∙ sym (sum_by-cons (λ y. f (Some y)) x xs)
  where
    next : (n : ℕ) → f (slice_get (x ∷ xs) (n + 1)) ≡ f (slice_get xs n)
    next n = ap (λ m. f (slice_get (x ∷ xs) m)) (plus n)
      where
        plus : (n : ℕ) → n + 1 ≡ suc n
        plus n = omega arith

-- a number times
pub sum-times : {X : Type 0} (f : X → ℕ) (d : ℕ) (xs : List X) → sum_by (λ x. f x * d) xs ≡ sum_by f xs * d
sum-times f d [] = sym (zero-mul d)
sum-times f d (x ∷ xs) =
    sum_by-cons (λ y. f y * d) x xs ∙ ap (λ n. f x * d + n) (sum-times f d xs) ∙ sym (add-mul (f x) (sum_by f xs) d) ∙ ap (λ n. n * d) (sym (sum_by-cons f x xs))

-- lengths
pub length-flat : {X Y : Type 0} (g : X → List Y) (xs : List X) → length (flat_map g xs) ≡ sum_by (λ x. length (g x)) xs
length-flat g [] = refl
length-flat g (x ∷ xs) = length-append (g x) (flat_map g xs) ∙ ap (λ n. length (g x) + n) (length-flat g xs) ∙ sym (sum_by-cons (λ y. length (g y)) x xs)

pub sum-even : {X : Type 0} (f : X → ℕ) (d : ℕ) → ((x : X) → f x ≡ d) → (xs : List X) → sum_by f xs ≡ length xs * d
sum-even f d even [] = sym (zero-mul d)
sum-even f d even (x ∷ xs) = sum_by-cons f x xs ∙ (λ i. even x i + sum-even f d even xs i) ∙ sym (suc-mul' (length xs))
  where
    suc-mul' : (n : ℕ) → suc n * d ≡ d + n * d
    suc-mul' n = suc-mul n d ∙ add_comm (n * d) d

pub length-numbers : (a n : ℕ) → length (numbers_from a n) ≡ n
length-numbers a zero = refl
length-numbers a (suc n) = ap suc (length-numbers (a + 1) n)
