-- A list with what stands in one place changed, or with one item more: what stands in each place, and where a test first passes.
use Rattle.std.proofs.Common.{◌≡◌, ℕ, zero, suc, ◌+◌, ◌≤◌, ◌<◌, ◌==◌, nat_lt, Bool, true, false, List, [], ◌∷◌, ◌++◌, map, length, get_or, set, Option, Some, None, refl, sym, ap, ◌∙◌, arith}
use Rattle.std.specs.Prelude.{if◌then◌else◌, slice_get, position}
use Rattle.std.specs.Option.{option_map}
use Rattle.std.specs.List.{position_or_len}
use Rattle.std.proofs.lemmas.Bool.Decides.{nat_tests}
use Rattle.hx_lists.specs.Lists.{count}
use Rattle.hx_replicas.specs.Indexes.{alter}

eq_suc : (i j : ℕ) → (suc i == suc j) ≡ (i == j)
eq_suc i j = grind (arith, nat_tests)

eq_zero_suc : (j : ℕ) → (0 == suc j) ≡ false
eq_zero_suc j = grind (arith, nat_tests)

eq_suc_zero : (i : ℕ) → (suc i == 0) ≡ false
eq_suc_zero i = grind (arith, nat_tests)

-- what stands in a place
pub stands-in : {X : Type 0} (xs : List X) (i : ℕ) (x : X) → i < length xs → x ≡ get_or xs i x → slice_get xs i ≡ Some x
stands-in [] i x lt is = absurd (omega arith)
stands-in (y ∷ xs) zero x lt is = ap (λ z. Some z) (sym is)
stands-in (y ∷ xs) (suc i) x lt is = stands-in xs i x (omega arith) is

pub only-one : {X : Type 0} (o : Option X) (x y : X) → o ≡ Some x → o ≡ Some y → y ≡ x
only-one o x y a b = let both : Some x ≡ Some y = sym a ∙ b in cc

pub stands-lt : {X : Type 0} (xs : List X) (i : ℕ) (x : X) → slice_get xs i ≡ Some x → i < length xs
stands-lt [] i x e = absurd (cc)
stands-lt (y ∷ xs) zero x e = omega arith
stands-lt (y ∷ xs) (suc i) x e = let less = stands-lt xs i x e in omega arith

pub stands-some : {X : Type 0} (xs : List X) (i : ℕ) → i < length xs → (x : X) × (slice_get xs i ≡ Some x)
stands-some [] i lt = absurd (omega arith)
stands-some (y ∷ xs) zero lt = (y, refl)
stands-some (y ∷ xs) (suc i) lt = stands-some xs i (omega arith)

pub stands-get : {X : Type 0} (xs : List X) (i : ℕ) (x : X) → slice_get xs i ≡ Some x → x ≡ get_or xs i x
stands-get [] i x e = absurd (cc)
stands-get (y ∷ xs) zero x e = cc
stands-get (y ∷ xs) (suc i) x e = stands-get xs i x e

pub past : {X : Type 0} (xs : List X) → slice_get xs (length xs) ≡ None
past [] = refl
past (x ∷ xs) = past xs

module _ {X : Type 0} (f : X → X) where
  pub length-alter : (i : ℕ) (xs : List X) → length (alter f i xs) ≡ length xs
  length-alter i [] = refl
  length-alter zero (x ∷ xs) = refl
  length-alter (suc i) (x ∷ xs) = ap (λ (n : ℕ). suc n) (length-alter i xs)

  pub get-alter : (i j : ℕ) (xs : List X) → slice_get (alter f i xs) j ≡ (if i == j then option_map f (slice_get xs j) else slice_get xs j)
  get-alter i j [] = by_test (i == j)
    where
      by_test : (b : Bool) → None ≡ (if b then option_map f None else None)
      by_test true = refl
      by_test false = refl
  get-alter zero zero (x ∷ xs) = refl
  get-alter zero (suc j) (x ∷ xs) = rw (eq_zero_suc j) refl
  get-alter (suc i) zero (x ∷ xs) = rw (eq_suc_zero i) refl
  get-alter (suc i) (suc j) (x ∷ xs) = rw (eq_suc i j) (get-alter i j xs)

  pub alter-set : (xs : List X) (i : ℕ) (x : X) → i < length xs → x ≡ get_or xs i x → alter f i xs ≡ set xs i (f x)
  alter-set [] i x lt is = absurd (omega arith)
  alter-set (y ∷ xs) zero x lt is = ap (λ z. f z ∷ xs) (sym is)
  alter-set (y ∷ xs) (suc i) x lt is = ap (λ ys. y ∷ ys) (alter-set xs i x (omega arith) is)

  pub count-alter : (q : X → Bool) (xs : List X) (i : ℕ) (x : X) → slice_get xs i ≡ Some x → count q (alter f i xs) + (if q x then 1 else 0) ≡ count q xs + (if q (f x) then 1 else 0)
  count-alter q [] i x e = absurd (cc)
  count-alter q (y ∷ xs) zero x e = let same : y ≡ x = cc in rw same (grind arith)
  count-alter q (y ∷ xs) (suc i) x e = grind (arith, count-alter q xs i x e)

-- an item that is put is what alters the place
pub set-alter : {X : Type 0} (xs : List X) (i : ℕ) (y x : X) → i < length xs → x ≡ get_or xs i x → set xs i y ≡ alter (λ z. y) i xs
set-alter xs i y x lt is = sym (alter-set (λ z. y) xs i x lt is)

pub get-push : {X : Type 0} (xs : List X) (y : X) (j : ℕ) → slice_get (xs ++ y ∷ []) j ≡ (if length xs == j then Some y else slice_get xs j)
get-push [] y zero = refl
get-push [] y (suc j) = rw (eq_zero_suc j) refl
get-push (x ∷ xs) y zero = rw (eq_suc_zero (length xs)) refl
get-push (x ∷ xs) y (suc j) = rw (eq_suc (length xs) j) (get-push xs y j)

pub get-map : {X Y : Type 0} (f : X → Y) (xs : List X) (j : ℕ) → slice_get (map f xs) j ≡ option_map f (slice_get xs j)
get-map f [] j = refl
get-map f (x ∷ xs) zero = refl
get-map f (x ∷ xs) (suc j) = get-map f xs j

pub count-push : {X : Type 0} (q : X → Bool) (xs : List X) (y : X) → count q (xs ++ y ∷ []) ≡ count q xs + (if q y then 1 else 0)
count-push q [] y = grind arith
count-push q (x ∷ xs) y = grind (arith, count-push q xs y)

pub count-le : {X : Type 0} (q : X → Bool) (xs : List X) → count q xs ≤ length xs
count-le q [] = omega arith
count-le q (x ∷ xs) = grind (arith, count-le q xs)

one_more : (n : ℕ) → Some (1 + n) ≡ Some (suc n)
one_more n = ap (λ (k : ℕ). Some k) (omega arith)

-- where a test first passes
module _ {X : Type 0} (q : X → Bool) where
  pub position-cons : (x : X) (xs : List X) → position q (x ∷ xs) ≡ (if q x then Some 0 else option_map (λ n. suc n) (position q xs))
  position-cons x xs = by_test (q x) refl (nat_lt (position_or_len q xs) (length xs)) refl
    where
      by_test : (b : Bool) → q x ≡ b → (d : Bool) → nat_lt (position_or_len q xs) (length xs) ≡ d → position q (x ∷ xs) ≡ (if b then Some 0 else option_map (λ n. suc n) (position q xs))
      by_test true e d is = let first : nat_lt 0 (suc (length xs)) ≡ true = grind (arith, nat_tests) in rw (e, first) refl
      by_test false e true is = let more : nat_lt (1 + position_or_len q xs) (suc (length xs)) ≡ true = grind (arith, nat_tests) in rw (e, is, more) (one_more (position_or_len q xs))
      by_test false e false is = let more : nat_lt (1 + position_or_len q xs) (suc (length xs)) ≡ false = grind (arith, nat_tests) in rw (e, is, more) refl

  pub position-none : (xs : List X) → ((j : ℕ) (x : X) → slice_get xs j ≡ Some x → q x ≡ false) → position q xs ≡ None
  position-none [] off = refl
  position-none (x ∷ xs) off = rw (position-cons x xs, off 0 x refl, position-none xs (λ j y e. off (suc j) y e)) refl

  pub position-only : (xs : List X) (i : ℕ) → i < length xs → ((j : ℕ) (x : X) → slice_get xs j ≡ Some x → q x ≡ (i == j)) → position q xs ≡ Some i
  position-only [] i lt at = absurd (omega arith)
  position-only (x ∷ xs) zero lt at = rw (position-cons x xs, at 0 x refl) refl
  position-only (x ∷ xs) (suc i) lt at =
      let off : q x ≡ false = at 0 x refl ∙ eq_suc_zero i in
      rw (position-cons x xs, off, position-only xs i (omega arith) (λ j y e. at (suc j) y e ∙ eq_suc i j)) refl

  pub position-alter : (f : X → X) (xs : List X) (i : ℕ) → ((x : X) → slice_get xs i ≡ Some x → q (f x) ≡ q x) → position q (alter f i xs) ≡ position q xs
  position-alter f [] i same = refl
  position-alter f (x ∷ xs) zero same = rw (position-cons (f x) xs, position-cons x xs, same x refl) refl
  position-alter f (x ∷ xs) (suc i) same = rw (position-cons x (alter f i xs), position-cons x xs, position-alter f xs i same) refl

  pub position-map : (f : X → X) (xs : List X) → ((x : X) → q (f x) ≡ q x) → position q (map f xs) ≡ position q xs
  position-map f [] same = refl
  position-map f (x ∷ xs) same = rw (position-cons (f x) (map f xs), position-cons x xs, same x, position-map f xs same) refl

  pub position-push_other : (xs : List X) (y : X) → q y ≡ false → position q (xs ++ y ∷ []) ≡ position q xs
  position-push_other [] y off = rw (position-cons y [], off) refl
  position-push_other (x ∷ xs) y off = rw (position-cons x (xs ++ y ∷ []), position-cons x xs, position-push_other xs y off) refl

  pub position-push : (xs : List X) (y : X) → position q xs ≡ None → q y ≡ true → position q (xs ++ y ∷ []) ≡ Some (length xs)
  position-push [] y none on = rw (position-cons y [], on) refl
  position-push (x ∷ xs) y none on = by_test (q x) refl (position q xs) refl (position-push xs y)
    where
      by_test : (b : Bool) → q x ≡ b → (o : Option ℕ) → position q xs ≡ o → (position q xs ≡ None → q y ≡ true → position q (xs ++ y ∷ []) ≡ Some (length xs)) → position q (x ∷ xs ++ y ∷ []) ≡ Some (length (x ∷ xs))
      by_test true e o is rest = let found : position q (x ∷ xs) ≡ Some 0 = rw (position-cons x xs, e) refl in absurd (let both : Some 0 ≡ None = sym found ∙ none in cc)
      by_test false e None is rest = rw (position-cons x (xs ++ y ∷ []), e, rest is on) refl
      by_test false e (Some n) is rest = let found : position q (x ∷ xs) ≡ Some (suc n) = rw (position-cons x xs, e, is) refl in absurd (let both : Some (suc n) ≡ None = sym found ∙ none in cc)
