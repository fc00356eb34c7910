-- Counts and tests over lists that are put together, and over what is chosen of a list.
use Rattle.std.proofs.Common.{◌≡◌, ℕ, zero, suc, ◌+◌, ◌≤◌, ◌<◌, ◌==◌, Bool, true, false, List, [], ◌∷◌, ◌++◌, Option, Some, None, refl, ◌∙◌, arith}
use Rattle.std.specs.Prelude.{if◌then◌else◌, nat_lt}
use Rattle.std.specs.List.{list_all, flat_map, filter_map, cons_option, fold}
use Rattle.std.proofs.lemmas.Bool.Decides.{nat_tests}
use Rattle.hx_lists.specs.Lists.{count, numbers_from, numbers_below}
use Rattle.hx_lists.specs.Choices.{with_chosen, chosen_of}
use Rattle.hx_safe.proofs.Counting.{count-append, all-append, and-first, and-second, and-both}

-- what each piece passes, all pieces together pass
pub all-pieces : {X Y : Type 0} (q : Y → Bool) (f : X → List Y) (k : X → Bool) → ((x : X) → k x ≡ true → list_all q (f x) ≡ true) → (xs : List X) → list_all k xs ≡ true
    → list_all q (flat_map f xs) ≡ true
all-pieces q f k h [] e = refl
all-pieces q f k h (x ∷ xs) e =
    let here : list_all q (f x) ≡ true = h x (grind (arith, e)) in
    let rest : list_all q (flat_map f xs) ≡ true = all-pieces q f k h xs (grind (arith, e)) in
    all-append q (f x) (flat_map f xs) ∙ and-both (list_all q (f x)) (list_all q (flat_map f xs)) here rest

-- an item counts in the piece of one number alone
pieces-none : {Y : Type 0} (q : Y → Bool) (f : ℕ → List Y) (m : ℕ) → ((n : ℕ) → (n == m) ≡ false → count q (f n) ≡ 0) → (ns : List ℕ) → count (λ n. n == m) ns ≤ 0
    → count q (flat_map f ns) ≤ 0
pieces-none q f m h [] e = omega arith
pieces-none q f m h (n ∷ ns) e =
    let other : (n == m) ≡ false = grind (arith, e) in
    let none = h n other in
    let rest = pieces-none q f m h ns (grind (arith, e)) in
    let both = count-append q (f n) (flat_map f ns) in
    omega (arith, none, rest, both)

pub pieces-once : {Y : Type 0} (q : Y → Bool) (f : ℕ → List Y) (m : ℕ) → ((n : ℕ) → (n == m) ≡ false → count q (f n) ≡ 0) → ((n : ℕ) → (n == m) ≡ true → count q (f n) ≤ 1)
    → (ns : List ℕ) → count (λ n. n == m) ns ≤ 1 → count q (flat_map f ns) ≤ 1
pieces-once q f m h g [] e = omega arith
pieces-once {Y} q f m h g (n ∷ ns) e = one (n == m) refl (pieces-once q f m h g ns)
  where
    one : (b : Bool) → (n == m) ≡ b → (count (λ n. n == m) ns ≤ 1 → count q (flat_map f ns) ≤ 1) → count q (f n ++ flat_map f ns) ≤ 1
    one true is rest =
        let none = pieces-none q f m h ns (grind (arith, e, is)) in
        let here = g n is in
        let both = count-append q (f n) (flat_map f ns) in
        omega (arith, none, here, both)
    one false is rest =
        let none = h n is in
        let more = rest (grind (arith, e, is)) in
        let both = count-append q (f n) (flat_map f ns) in
        omega (arith, none, more, both)

-- the numbers below one are below it, and each stands once
numbers-low : (a n most : ℕ) → a + n ≤ most → list_all (λ j. nat_lt j most) (numbers_from a n) ≡ true
numbers-low a zero most e = refl
numbers-low a (suc n) most e =
    let here : nat_lt a most ≡ true = grind (arith, nat_tests, e) in
    let rest = numbers-low (a + 1) n most (omega (arith, e)) in
    grind (arith, here, rest)

pub numbers-below : (n : ℕ) → list_all (λ j. nat_lt j n) (numbers_below n) ≡ true
numbers-below n = numbers-low 0 n n (omega arith)

numbers-above : (a n m : ℕ) → m < a → count (λ j. j == m) (numbers_from a n) ≡ 0
numbers-above a zero m e = refl
numbers-above a (suc n) m e =
    let other : (a == m) ≡ false = grind (arith, nat_tests, e) in
    let rest = numbers-above (a + 1) n m (omega (arith, e)) in
    grind (arith, other, rest)

numbers-single : (a n m : ℕ) → count (λ j. j == m) (numbers_from a n) ≤ 1
numbers-single a zero m = omega arith
numbers-single a (suc n) m = one (a == m) refl (numbers-single (a + 1) n m)
  where
    one : (b : Bool) → (a == m) ≡ b → count (λ j. j == m) (numbers_from (a + 1) n) ≤ 1 → count (λ j. j == m) (a ∷ numbers_from (a + 1) n) ≤ 1
    one true is more =
        let low : m < a + 1 = grind (arith, nat_tests, is) in
        let rest = numbers-above (a + 1) n m low in
        grind (arith, is, rest)
    one false is more = grind (arith, is, more)

pub numbers-once : (n m : ℕ) → count (λ j. j == m) (numbers_below n) ≤ 1
numbers-once n m = numbers-single 0 n m

-- what comes of the items of a list
pub all-made : {X Y : Type 0} (q : Y → Bool) (f : X → Option Y) (k : X → Bool) → ((x : X) (y : Y) → k x ≡ true → f x ≡ Some y → q y ≡ true) → (xs : List X) → list_all k xs ≡ true
    → list_all q (filter_map f xs) ≡ true
all-made q f k h [] e = refl
all-made {X} {Y} q f k h (x ∷ xs) e = one (f x) refl (all-made q f k h xs (and-second (k x) (list_all k xs) e))
  where
    one : (o : Option Y) → f x ≡ o → list_all q (filter_map f xs) ≡ true → list_all q (cons_option o (filter_map f xs)) ≡ true
    one None is rest = rest
    one (Some y) is rest =
        let here = h x y (and-first (k x) (list_all k xs) e) is in
        and-both (q y) (list_all q (filter_map f xs)) here rest

pub count-made : {X Y : Type 0} (q : Y → Bool) (f : X → Option Y) (k : X → Bool) → ((x : X) (y : Y) → f x ≡ Some y → q y ≡ true → k x ≡ true) → (xs : List X)
    → count q (filter_map f xs) ≤ count k xs
count-made q f k h [] = omega arith
count-made {X} {Y} q f k h (x ∷ xs) = one (f x) refl (count-made q f k h xs)
  where
    one : (o : Option Y) → f x ≡ o → count q (filter_map f xs) ≤ count k xs → count q (cons_option o (filter_map f xs)) ≤ count k (x ∷ xs)
    one None is rest = grind (arith, rest)
    one (Some y) is rest = grind (arith, h x y is, rest)

-- what is chosen of a list
all-chosen_from : {X : Type 0} (q : X → Bool) (takes : List X → X → Bool) (chosen xs : List X) → list_all q chosen ≡ true → list_all q xs ≡ true → list_all q (fold (with_chosen takes) chosen xs) ≡ true
all-chosen_from q takes chosen [] c e = c
all-chosen_from {X} q takes chosen (x ∷ xs) c e = all-chosen_from q takes (with_chosen takes chosen x) xs (one (takes chosen x)) (grind (arith, e))
  where
    one : (b : Bool) → list_all q (chosen ++ (if b then x ∷ [] else [])) ≡ true
    one true = all-append q chosen (x ∷ []) ∙ grind (arith, c, e)
    one false = all-append q chosen [] ∙ grind (arith, c)

pub all-chosen : {X : Type 0} (q : X → Bool) (takes : List X → X → Bool) (xs : List X) → list_all q xs ≡ true → list_all q (chosen_of takes xs) ≡ true
all-chosen q takes xs e = all-chosen_from q takes [] xs refl e

count-chosen_from : {X : Type 0} (q : X → Bool) (takes : List X → X → Bool) (chosen xs : List X) → count q (fold (with_chosen takes) chosen xs) ≤ count q chosen + count q xs
count-chosen_from q takes chosen [] = omega arith
count-chosen_from {X} q takes chosen (x ∷ xs) = one (takes chosen x) (count-chosen_from q takes (with_chosen takes chosen x) xs)
  where
    one : (b : Bool) → {n : ℕ} → n ≤ count q (chosen ++ (if b then x ∷ [] else [])) + count q xs → n ≤ count q chosen + count q (x ∷ xs)
    one true low = let both = count-append q chosen (x ∷ []) in grind (arith, low, both)
    one false low = let both = count-append q chosen [] in grind (arith, low, both)

pub count-chosen : {X : Type 0} (q : X → Bool) (takes : List X → X → Bool) (xs : List X) → count q (chosen_of takes xs) ≤ count q xs
count-chosen q takes xs = let low = count-chosen_from q takes [] xs in grind (arith, low)
