-- Laws of counts, of tests and of finding over lists.
use Rattle.std.proofs.Common.{◌≡◌, ◌+◌, ◌≤◌, ◌||◌, ◌&&◌, not, Bool, true, false, List, [], ◌∷◌, ◌++◌, length, filter, map, find, Option, Some, None, refl, arith}
use Rattle.std.specs.List.{list_any, list_all}
use Rattle.hx_lists.specs.Lists.{count, insert_by}
pub use Rattle.hx_lists.proofs.Conditions.{and-first, and-second, and-both, all-filter}

-- a test that is asked only where another one passes
pub if-passed : (a b : Bool) → b ≡ true → (not a || b) ≡ true
if-passed true b e = e
if-passed false b e = refl

pub if-unasked : (a b : Bool) → a ≡ false → (not a || b) ≡ true
if-unasked true b e = cc
if-unasked false b e = refl

pub or-swap : (a b : Bool) → (a || b) ≡ true → (b || a) ≡ true
or-swap true true e = refl
or-swap true false e = refl
or-swap false true e = refl
or-swap false false e = cc

-- counts
pub count-append : {X : Type 0} (p : X → Bool) (xs ys : List X) → count p (xs ++ ys) ≡ count p xs + count p ys
count-append p [] ys = omega arith
count-append p (x ∷ xs) ys = grind (arith, count-append p xs ys)

pub count-le : {X : Type 0} (p q : X → Bool) (h : (x : X) → p x ≡ true → q x ≡ true) (xs : List X) → count p xs ≤ count q xs
count-le p q h [] = omega arith
count-le p q h (x ∷ xs) = grind (arith, count-le p q h xs, h x)

pub count-filter : {X : Type 0} (p k : X → Bool) (xs : List X) → count p (filter k xs) ≤ count p xs
count-filter p k [] = omega arith
count-filter p k (x ∷ xs) = grind (arith, count-filter p k xs)

pub count-map : {X Y : Type 0} (p : Y → Bool) (f : X → Y) (xs : List X) → count p (map f xs) ≡ count (λ x. p (f x)) xs
count-map p f [] = refl
count-map p f (x ∷ xs) = grind (arith, count-map p f xs)

-- a test that sees nothing of a change counts as many after it
pub count-shown : {X : Type 0} (p : X → Bool) (f : X → X) (h : (x : X) → p (f x) ≡ p x) (xs : List X) → count p (map f xs) ≡ count p xs
count-shown p f h [] = refl
count-shown p f h (x ∷ xs) = grind (arith, h x, count-shown p f h xs)

-- what passes the first test passes the second or the third
pub count-or : {X : Type 0} (p q one : X → Bool) (h : (x : X) → p x ≡ true → (q x || one x) ≡ true) (xs : List X) → count p xs ≤ count q xs + count one xs
count-or p q one h [] = omega arith
count-or p q one h (x ∷ xs) = grind (arith, count-or p q one h xs, h x)

pub count-none : {X : Type 0} (p : X → Bool) (xs : List X) → list_any p xs ≡ false → count p xs ≡ 0
count-none p [] e = refl
count-none p (x ∷ xs) e = grind (arith, e, count-none p xs)

pub count-length : {X : Type 0} (p : X → Bool) (xs : List X) → count p xs ≤ length xs
count-length p [] = omega arith
count-length p (x ∷ xs) = grind (arith, count-length p xs)

-- an item put into its place counts as one in front
pub count-insert : {X : Type 0} (p : X → Bool) (before : X → X → Bool) (x : X) (xs : List X) → count p (insert_by before x xs) ≡ count p (x ∷ xs)
count-insert p before x [] = refl
count-insert p before x (y ∷ xs) = grind (arith, count-insert p before x xs)

-- an item that is taken out counts no more
pub count-removed : {X : Type 0} (p q k : X → Bool) (xs : List X) (x : X) → find q xs ≡ Some x → k x ≡ false → p x ≡ true → count p (filter k xs) + 1 ≤ count p xs
count-removed p q k [] x e gone w = cc
count-removed p q k (y ∷ xs) x e gone w = grind (arith, e, gone, w, count-removed p q k xs x, count-filter p k xs)

-- none passes a test that always fails
pub count-never : {X : Type 0} (p : X → Bool) (h : (x : X) → p x ≡ false) (xs : List X) → count p xs ≡ 0
count-never p h [] = refl
count-never p h (x ∷ xs) = grind (arith, h x, count-never p h xs)

-- the parts of a test of several
pub and-three : (a b d : Bool) → (a && b && d) ≡ true → (a ≡ true) × (b ≡ true) × (d ≡ true)
and-three true true true e = (refl, refl, refl)
and-three true true false e = cc
and-three true false d e = cc
and-three false b d e = cc

pub and-four : (a b d f : Bool) → (a && b && d && f) ≡ true → (a ≡ true) × (b ≡ true) × (d ≡ true) × (f ≡ true)
and-four true true true true e = (refl, refl, refl, refl)
and-four true true true false e = cc
and-four true true false f e = cc
and-four true false d f e = cc
and-four false b d f e = cc

pub and-six : (a b d f g h : Bool) → (a && b && d && f && g && h) ≡ true → (a ≡ true) × (b ≡ true) × (d ≡ true) × (f ≡ true) × (g ≡ true) × (h ≡ true)
and-six true true true true true true e = (refl, refl, refl, refl, refl, refl)
and-six true true true true true false e = cc
and-six true true true true false h e = cc
and-six true true true false g h e = cc
and-six true true false f g h e = cc
and-six true false d f g h e = cc
and-six false b d f g h e = cc

-- tests
pub any-append : {X : Type 0} (p : X → Bool) (xs ys : List X) → list_any p (xs ++ ys) ≡ (list_any p xs || list_any p ys)
any-append p [] ys = refl
any-append p (x ∷ xs) ys = grind (arith, any-append p xs ys)

pub any-filter_kept : {X : Type 0} (p k : X → Bool) (h : (x : X) → p x ≡ true → k x ≡ true) (xs : List X) → list_any p xs ≡ true → list_any p (filter k xs) ≡ true
any-filter_kept p k h [] e = cc
any-filter_kept p k h (x ∷ xs) e = grind (arith, e, any-filter_kept p k h xs, h x)

pub all-append : {X : Type 0} (p : X → Bool) (xs ys : List X) → list_all p (xs ++ ys) ≡ (list_all p xs && list_all p ys)
all-append p [] ys = refl
all-append p (x ∷ xs) ys = grind (arith, all-append p xs ys)

pub all-le : {X : Type 0} (p q : X → Bool) (h : (x : X) → p x ≡ true → q x ≡ true) (xs : List X) → list_all p xs ≡ true → list_all q xs ≡ true
all-le p q h [] e = refl
all-le p q h (x ∷ xs) e = grind (arith, e, all-le p q h xs, h x)

pub all-filter_more : {X : Type 0} (p q k : X → Bool) (h : (x : X) → p x ≡ true → k x ≡ true → q x ≡ true) (xs : List X) → list_all p xs ≡ true → list_all q (filter k xs) ≡ true
all-filter_more p q k h [] e = refl
all-filter_more p q k h (x ∷ xs) e = grind (arith, e, all-filter_more p q k h xs, h x)

pub all-map : {X Y : Type 0} (p : Y → Bool) (f : X → Y) (xs : List X) → list_all p (map f xs) ≡ list_all (λ x. p (f x)) xs
all-map p f [] = refl
all-map p f (x ∷ xs) = grind (arith, all-map p f xs)

pub all-insert : {X : Type 0} (p : X → Bool) (before : X → X → Bool) (x : X) (xs : List X) → list_all p (insert_by before x xs) ≡ list_all p (x ∷ xs)
all-insert p before x [] = refl
all-insert p before x (y ∷ xs) = grind (arith, all-insert p before x xs)

pub all-both : {X : Type 0} (p q : X → Bool) (xs : List X) → list_all p xs ≡ true → list_all q xs ≡ true → list_all (λ x. p x && q x) xs ≡ true
all-both p q [] e w = refl
all-both p q (x ∷ xs) e w = grind (arith, e, w, all-both p q xs)

-- no item passes a test that each one's rules out
pub none-from-all : {X : Type 0} (p q : X → Bool) (h : (x : X) → p x ≡ true → q x ≡ false) (xs : List X) → list_all p xs ≡ true → list_any q xs ≡ false
none-from-all p q h [] e = refl
none-from-all p q h (x ∷ xs) e = grind (arith, e, none-from-all p q h xs, h x)

-- what is found passes the test
pub find-passes : {X : Type 0} (p : X → Bool) (xs : List X) (x : X) → find p xs ≡ Some x → p x ≡ true
find-passes p [] x e = cc
find-passes p (y ∷ xs) x e = grind (arith, e, find-passes p xs x)

-- and so does what is found by a test that says more
pub find-any : {X : Type 0} (p q : X → Bool) (xs : List X) (x : X) → find p xs ≡ Some x → q x ≡ true → list_any q xs ≡ true
find-any p q [] x e w = cc
find-any p q (y ∷ xs) x e w = grind (arith, e, w, find-any p q xs x)

pub all-find : {X : Type 0} (p q : X → Bool) (xs : List X) (x : X) → list_all p xs ≡ true → find q xs ≡ Some x → p x ≡ true
all-find p q [] x a e = cc
all-find p q (y ∷ xs) x a e = grind (arith, a, e, all-find p q xs x)

pub find-none : {X : Type 0} (p : X → Bool) (xs : List X) → list_any p xs ≡ false → find p xs ≡ None
find-none p [] e = refl
find-none p (x ∷ xs) e = grind (arith, e, find-none p xs)

pub none-find : {X : Type 0} (p : X → Bool) (xs : List X) → find p xs ≡ None → list_any p xs ≡ false
none-find p [] e = refl
none-find p (x ∷ xs) e = grind (arith, e, none-find p xs)

pub any-count : {X : Type 0} (p : X → Bool) (xs : List X) → list_any p xs ≡ true → 1 ≤ count p xs
any-count p [] e = cc
any-count p (x ∷ xs) e = grind (arith, e, any-count p xs)

-- where at most one item passes a test, what is found and passes it too is that one
pub find-single : {X : Type 0} (p q : X → Bool) (xs : List X) (m : X) → find p xs ≡ Some m → q m ≡ true → count q xs ≤ 1 → find q xs ≡ Some m
find-single p q [] m e w one = cc
find-single p q (x ∷ xs) m e w one = grind (arith, e, w, find-single p q xs m, find-any p q xs m, any-count q xs)

-- a fact that holds of each item that doesn't pass a test holds of all, where none passes
pub all-others : {X : Type 0} (p q r : X → Bool) (xs : List X) → ((x : X) → p x ≡ false → q x ≡ true → r x ≡ true) → count p xs ≤ 0 → list_all q xs ≡ true → list_all r xs ≡ true
all-others p q r [] h none all = refl
all-others p q r (x ∷ xs) h none all = grind (arith, none, all, h x, all-others p q r xs h)

-- or where at most one does, of which it holds too
pub all-single : {X : Type 0} (p q r : X → Bool) (xs : List X) (m : X) → ((x : X) → p x ≡ false → q x ≡ true → r x ≡ true) → find p xs ≡ Some m → count p xs ≤ 1
    → r m ≡ true → list_all q xs ≡ true → list_all r xs ≡ true
all-single p q r [] m h e one w all = refl
all-single p q r (x ∷ xs) m h e one w all = grind (arith, e, all, one, w, h x, all-single p q r xs m h, all-others p q r xs h)

-- a test that each item passes which is the first of its kind, where there is one of each kind
all-or-none : {X : Type 0} (q : X → Bool) (xs : List X) → list_any (λ x. not (q x)) xs ≡ false → list_all q xs ≡ true
all-or-none q [] e = refl
all-or-none q (x ∷ xs) e = grind (arith, e, all-or-none q xs)

pub all_found : {X : Type 0} (alike : X → X → Bool) (q : X → Bool) (xs : List X) → ((x : X) → alike x x ≡ true) → ((x : X) → count (alike x) xs ≤ 1)
    → ((x : X) → find (alike x) xs ≡ Some x → q x ≡ true) → list_all q xs ≡ true
all_found {X} alike q xs self most h = one (find (λ x. not (q x)) xs) refl
  where
    one : (o : Option X) → find (λ x. not (q x)) xs ≡ o → list_all q xs ≡ true
    one None is = all-or-none q xs (none-find (λ x. not (q x)) xs is)
    one (Some x) is =
        let no : not (q x) ≡ true = find-passes (λ x. not (q x)) xs x is in
        let yes : q x ≡ true = h x (find-single (λ x. not (q x)) (alike x) xs x is (self x) (most x)) in
        grind (arith, no, yes)
