-- Keys in order: one more, one less, and the first from one on.
use Rattle.std.proofs.Common.{Less, ◌≡◌, ℕ, zero, suc, ◌-◌, ◌≤◌, ◌<◌, Bool, true, false, not, ◌&&◌, ◌||◌, List, [], ◌∷◌, ◌++◌, length, slice_get, slice_index_or, insert, remove, drop, None, Some, Option, Result, OnSome, IsSome, MatchOption, HoldsAt, option_copied, nat_lt, Bor, refl, sym, ap, ◌∙◌, subst, arith}
use Rattle.std.specs.Prelude.{◌==◌}
use Rattle.std.specs.List.{AllByRecursion, list_any}
use Rattle.std.specs.List.Sorted.{IsStrictlySortedBy, IsBinarySearchResult}
use Rattle.std.specs.Ordering.{nat_cmp}
use Rattle.std.proofs.lemmas.Bool.Decides.{nat_tests}
use Rattle.std.proofs.lemmas.List.{get_or_default}
use Rattle.std.proofs.lemmas.List.Sorted.{searched}
use Rattle.std.proofs.lemmas.Bool.{eq-eqb}
use Rattle.std.proofs.lemmas.Map.Keys.{sorted_head, sorted_tail, below_from_sorted, non_decreasing_from_sorted}
use Rattle.hx_store.specs.Owners.{IsFirstFrom}
use Rattle.hx_store.specs.Places.{IsGapFor, IsPlaceOf}

less : (a b : ℕ) → a < b → nat_cmp a b ≡ Less
less a b h = grind (arith, nat_tests)

all_above : (key : ℕ) (xs : List ℕ) → ((k : ℕ) → k < length xs → key < slice_index_or xs k 0) → AllByRecursion (λ y. nat_cmp key y ≡ Less) xs
all_above key [] above = tt
all_above key (x ∷ xs) above = (less key x (above 0 (omega arith)), all_above key xs (λ k l. above (suc k) (omega arith)))

all-insert : (P : ℕ → Type 0) (key i : ℕ) (xs : List ℕ) → AllByRecursion P xs → P key → AllByRecursion P (insert xs i key)
all-insert P key zero [] all p = (p, tt)
all-insert P key zero (x ∷ xs) all p = (p, all)
all-insert P key (suc i) [] all p = (p, tt)
all-insert P key (suc i) (x ∷ xs) all p = (all.0, all-insert P key i xs all.1 p)

all-remove : (P : ℕ → Type 0) (i : ℕ) (xs : List ℕ) → AllByRecursion P xs → AllByRecursion P (remove xs i)
all-remove P zero [] all = tt
all-remove P zero (x ∷ xs) all = all.1
all-remove P (suc i) [] all = tt
all-remove P (suc i) (x ∷ xs) all = (all.0, all-remove P i xs all.1)

pub sorted-insert : (key i : ℕ) (xs : List ℕ) → IsGapFor xs key i → IsStrictlySortedBy nat_cmp xs → IsStrictlySortedBy nat_cmp (insert xs i key)
unfolding IsStrictlySortedBy
sorted-insert key zero [] gap ordered = (tt, tt)
sorted-insert key zero (x ∷ xs) gap ordered = (all_above key (x ∷ xs) (λ k l. gap.2 k (omega arith) l), ordered)
sorted-insert key (suc i) [] gap ordered = absurd (omega (arith, gap.0))
sorted-insert key (suc i) (x ∷ xs) gap ordered =
    (all-insert _ key i xs ordered.0 (less x key (gap.1 0 (omega arith))), sorted-insert key i xs (omega (arith, gap.0), (λ k l. gap.1 (suc k) (omega arith)), λ k a l. gap.2 (suc k) (omega arith) (omega arith)) ordered.1)

-- a key past the last one comes to the end
insert-end : (key i : ℕ) (xs : List ℕ) → i ≡ length xs → insert xs i key ≡ xs ++ key ∷ []
insert-end key zero [] end = refl
insert-end key zero (x ∷ xs) end = absurd (omega (arith, end))
insert-end key (suc i) [] end = absurd (omega (arith, end))
insert-end key (suc i) (x ∷ xs) end = ap (λ ys. x ∷ ys) (insert-end key i xs (omega (arith, end)))

pub sorted-remove : (i : ℕ) (xs : List ℕ) → IsStrictlySortedBy nat_cmp xs → IsStrictlySortedBy nat_cmp (remove xs i)
unfolding IsStrictlySortedBy
sorted-remove zero [] ordered = tt
sorted-remove zero (x ∷ xs) ordered = ordered.1
sorted-remove (suc i) [] ordered = tt
sorted-remove (suc i) (x ∷ xs) ordered = (all-remove _ i xs ordered.0, sorted-remove i xs ordered.1)

one_more : (k key : ℕ) (b : Bool) → ((k == key) || b) ≡ (b || (key == k))
one_more k key b = grind (arith, nat_tests)

pub any-insert : (k key i : ℕ) (xs : List ℕ) → list_any (λ j. k == j) (insert xs i key) ≡ (list_any (λ j. k == j) xs || (key == k))
any-insert k key zero [] = one_more k key false
any-insert k key zero (x ∷ xs) = one_more k key (list_any (λ j. k == j) (x ∷ xs))
any-insert k key (suc i) [] = one_more k key false
any-insert k key (suc i) (x ∷ xs) = one (k == x) (any-insert k key i xs)
  where
    one : (b : Bool) → list_any (λ j. k == j) (insert xs i key) ≡ (list_any (λ j. k == j) xs || (key == k)) → (b || list_any (λ j. k == j) (insert xs i key)) ≡ ((b || list_any (λ j. k == j) xs) || (key == k))
    one true rest = refl
    one false rest = rest

-- a key at most as great as one below all isn't there
none_above : (k x : ℕ) (xs : List ℕ) → k ≤ x → AllByRecursion (λ y. nat_cmp x y ≡ Less) xs → list_any (λ j. k == j) xs ≡ false
none_above k x [] h all = refl
none_above k x (y ∷ ys) h all = let rest = none_above k x ys h all.1 in let other : (k == y) ≡ false = grind (arith, nat_tests, all.0) in rw (other, rest) refl

pub any-remove : (k key i : ℕ) (xs : List ℕ) → i < length xs → slice_index_or xs i 0 ≡ key → IsStrictlySortedBy nat_cmp xs → list_any (λ j. k == j) (remove xs i) ≡ (list_any (λ j. k == j) xs && not (key == k))
any-remove k key i [] inside at ordered = absurd (omega (arith, inside))
any-remove k key zero (x ∷ xs) inside at ordered = one (k == x) refl
  where
    one : (b : Bool) → (k == x) ≡ b → list_any (λ j. k == j) xs ≡ ((b || list_any (λ j. k == j) xs) && not (key == k))
    one true e = let same : (key == k) ≡ true = grind (arith, nat_tests, at) in let none = none_above k x xs (grind (arith, nat_tests)) (sorted_head _ _ _ ordered) in rw (same, none) refl
    one false e = let other : (key == k) ≡ false = grind (arith, nat_tests, at) in rw other (kept (list_any (λ j. k == j) xs))
      where
        kept : (b : Bool) → b ≡ (b && not false)
        kept true = refl
        kept false = refl
any-remove k key (suc i) (x ∷ xs) inside at ordered = one (k == x) refl (any-remove k key i xs (omega (arith, inside)) at (sorted_tail _ _ _ ordered))
  where
    one : (b : Bool) → (k == x) ≡ b → list_any (λ j. k == j) (remove xs i) ≡ (list_any (λ j. k == j) xs && not (key == k)) → (b || list_any (λ j. k == j) (remove xs i)) ≡ ((b || list_any (λ j. k == j) xs) && not (key == k))
    one true e rest = let past : x < key = omega (arith, at, below_from_sorted (x ∷ xs) 0 (suc i) 0 ordered (omega arith) inside) in let other : (key == k) ≡ false = grind (arith, nat_tests) in rw other refl
    one false e rest = rest

-- the keys of a list
abbrev IsIn : List ℕ → ℕ → Bool
IsIn xs k = list_any (λ j. k == j) xs

later : (from x : ℕ) (xs : List ℕ) (o : Option ℕ) → x < from → IsFirstFrom (IsIn xs) from o → IsFirstFrom (IsIn (x ∷ xs)) from o
later from x xs None low h = λ k a. let other : (k == x) ≡ false = grind (arith, nat_tests) in rw other (h k a)
later from x xs (Some j) low h = (h.0, rw (h.1) (or_true (j == x)), λ q a l. let other : (q == x) ≡ false = grind (arith, nat_tests) in rw other (h.2 q a l))
  where
    or_true : (b : Bool) → (b || true) ≡ true
    or_true true = refl
    or_true false = refl

-- the one past a gap is the first
pub first_past : (from i : ℕ) (xs : List ℕ) → IsGapFor xs from i → IsStrictlySortedBy nat_cmp xs → IsFirstFrom (IsIn xs) from (slice_get xs i)
first_past from i [] gap ordered = λ k a. refl
first_past from zero (x ∷ xs) gap ordered =
    (omega (arith, gap.2 0 (omega arith) (omega arith)), rw (eq-eqb x x refl) refl, λ q a l. let other : (q == x) ≡ false = grind (arith, nat_tests) in rw other (none_above q x xs (omega arith) (sorted_head _ _ _ ordered)))
first_past from (suc i) (x ∷ xs) gap ordered =
    later from x xs (slice_get xs i) (gap.1 0 (omega arith)) (first_past from i xs (omega (arith, gap.0), (λ k l. gap.1 (suc k) (omega arith)), λ k a l. gap.2 (suc k) (omega arith) (omega arith)) (sorted_tail _ _ _ ordered))

-- one that is there is the first from itself on
pub first_there : (from i : ℕ) (xs : List ℕ) → i < length xs → slice_index_or xs i 0 ≡ from → IsFirstFrom (IsIn xs) from (Some from)
first_there from i xs inside at = (omega arith, there from i xs inside at, λ q a l. absurd (omega arith))
  where
    there : (from i : ℕ) (xs : List ℕ) → i < length xs → slice_index_or xs i 0 ≡ from → list_any (λ j. from == j) xs ≡ true
    there from i [] inside at = absurd (omega (arith, inside))
    there from zero (x ∷ xs) inside at = let same : (from == x) ≡ true = grind (arith, nat_tests, at) in rw same refl
    there from (suc i) (x ∷ xs) inside at = rw (there from i xs (omega (arith, inside)) at) (or_true (from == x))
      where
        or_true : (b : Bool) → (b || true) ≡ true
        or_true true = refl
        or_true false = refl

-- ---- where a key stands
pub place_found : (xs : List ℕ) (key : ℕ) (r : Result ℕ ℕ) → IsStrictlySortedBy nat_cmp xs → IsBinarySearchResult (λ y. nat_cmp y key) xs r → IsPlaceOf xs key r
place_found xs key r ordered h = searched xs key r h (λ i j a l. non_decreasing_from_sorted xs ordered i j 0 a l)

pub place_past : (xs : List ℕ) (key last n : ℕ) → IsStrictlySortedBy nat_cmp xs → n ≡ length xs → last ≡ slice_index_or xs (n - 1) last → nat_lt last key ≡ true → IsGapFor xs key n
place_past xs key last n ordered long at low =
    let under : last < key = grind (arith, nat_tests) in (
      omega (arith, long),
      (λ k l. omega (arith, at, under, get_or_default xs k last 0 (omega (arith, long, l)), non_decreasing_from_sorted xs ordered k (n - 1) last (omega (arith, l)) (omega (arith, long, l)))),
      λ k a l. absurd (omega (arith, long, a, l)),
    )

-- a key that falls into a gap isn't there
none_in_gap : (key i : ℕ) (xs : List ℕ) → IsGapFor xs key i → list_any (λ j. key == j) xs ≡ false
none_in_gap key i [] gap = refl
none_in_gap key zero (x ∷ xs) gap =
    let above = gap.2 0 (omega arith) (omega arith) in
    let other : (key == x) ≡ false = grind (arith, nat_tests, above) in
    rw other (none_in_gap key zero xs (omega arith, (λ k l. absurd (omega (arith, l))), λ k a l. gap.2 (suc k) (omega arith) (omega arith)))
none_in_gap key (suc i) (x ∷ xs) gap =
    let below = gap.1 0 (omega arith) in
    let other : (key == x) ≡ false = grind (arith, nat_tests, below) in
    rw other (none_in_gap key i xs (omega (arith, gap.0), (λ k l. gap.1 (suc k) (omega arith)), λ k a l. gap.2 (suc k) (omega arith) (omega arith)))

pub absent_kept : (k key i : ℕ) (xs : List ℕ) → IsGapFor xs key i → list_any (λ j. k == j) xs ≡ (list_any (λ j. k == j) xs && not (key == k))
absent_kept k key i xs gap = one (key == k) refl
  where
    one : (b : Bool) → (key == k) ≡ b → list_any (λ j. k == j) xs ≡ (list_any (λ j. k == j) xs && not b)
    one true e = let same : k ≡ key = grind (arith, nat_tests) in let none : list_any (λ j. k == j) xs ≡ false = rw same (none_in_gap key i xs gap) in rw none refl
    one false e = kept (list_any (λ j. k == j) xs)
      where
        kept : (b : Bool) → b ≡ (b && not false)
        kept true = refl
        kept false = refl

-- what is removed where something is
pub on_some : (r : Option ℕ) (P : Type 0) → OnSome r P → IsSome r → P
on_some None P h some = cc
on_some (Some x) P h some = h

pub sorted_none : (xs : List ℕ) → xs ≡ [] → IsStrictlySortedBy nat_cmp xs
unfolding IsStrictlySortedBy
sorted_none xs none = rw none tt

-- an item that is lent
pub item_is : (xs : List ℕ) (i : ℕ) (r : Option (Bor ℕ)) → MatchOption r (length xs ≤ i) (λ y. (i < length xs) × HoldsAt (λ z. y.now ≡ z) xs i) → option_copied r ≡ slice_get xs i
item_is [] i None at = refl
item_is [] i (Some y) at = absurd (omega (arith, at.0))
item_is (x ∷ xs) zero None at = absurd (omega (arith, at))
item_is (x ∷ xs) zero (Some y) at = ap (λ (z : ℕ). Some z) (at.1 0)
item_is (x ∷ xs) (suc i) None at = item_is xs i None (omega (arith, at))
item_is (x ∷ xs) (suc i) (Some y) at = item_is xs i (Some y) (omega (arith, at.0), λ d. at.1 d)

-- what an insertion leaves, by whatever list is equal to it
pub inserted : (key i : ℕ) (xs ys now : List ℕ) → IsGapFor xs key i → IsStrictlySortedBy nat_cmp xs → xs ≡ now → ys ≡ insert xs i key
    → IsStrictlySortedBy nat_cmp ys × ((k : ℕ) → list_any (λ j. k == j) ys ≡ (list_any (λ j. k == j) now || (key == k)))
inserted key i xs ys now gap ordered same is = (
  subst (λ (zs : List ℕ). IsStrictlySortedBy nat_cmp zs) (sym is) (sorted-insert key i xs gap ordered),
  λ k. ap (λ (zs : List ℕ). list_any (λ j. k == j) zs) is ∙ any-insert k key i xs ∙ ap (λ (zs : List ℕ). list_any (λ j. k == j) zs || (key == k)) same,
)

-- the same at the end
pub appended : (key i : ℕ) (xs ys now : List ℕ) → IsGapFor xs key i → IsStrictlySortedBy nat_cmp xs → xs ≡ now → i ≡ length xs → ys ≡ xs ++ key ∷ []
    → IsStrictlySortedBy nat_cmp ys × ((k : ℕ) → list_any (λ j. k == j) ys ≡ (list_any (λ j. k == j) now || (key == k)))
appended key i xs ys now gap ordered same end is = inserted key i xs ys now gap ordered same (is ∙ sym (insert-end key i xs end))

-- the first key taken out
pub remove-front : (n : ℕ) (xs : List ℕ) → n ≡ 0 → drop 1 xs ≡ remove xs n
remove-front n [] front = rw front refl
remove-front n (x ∷ xs) front = rw front refl

-- what a removal leaves
pub removed : (key i : ℕ) (xs ys now : List ℕ) → i < length xs → slice_index_or xs i 0 ≡ key → IsStrictlySortedBy nat_cmp xs → xs ≡ now → ys ≡ remove xs i
    → IsStrictlySortedBy nat_cmp ys × ((k : ℕ) → list_any (λ j. k == j) ys ≡ (list_any (λ j. k == j) now && not (key == k)))
removed key i xs ys now inside at ordered same is = (
  subst (λ (zs : List ℕ). IsStrictlySortedBy nat_cmp zs) (sym is) (sorted-remove i xs ordered),
  λ k. ap (λ (zs : List ℕ). list_any (λ j. k == j) zs) is ∙ any-remove k key i xs inside at ordered ∙ ap (λ (zs : List ℕ). list_any (λ j. k == j) zs && not (key == k)) same,
)
