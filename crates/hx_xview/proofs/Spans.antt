-- The part of a list in which an order ties, between what is less and what is greater.
use Rattle.std.proofs.Common.{Ordering, Less, Equal, Greater, ◌≡◌, ℕ, suc, ◌+◌, ◌<◌, ◌≤◌, Bool, true, false, List, [], ◌∷◌, ◌++◌, length, take, drop, get_or, filter, refl, sym, ap, ◌∙◌, subst, arith}
use Rattle.std.specs.List.{All}
use Rattle.std.specs.List.Sorted.{IsPartitionedBy, IsPartitionPoint, IsNonDecreasingBy}
use Rattle.std.specs.Ordering.{is_eq, is_lt, is_le, ordering_index}
use Rattle.std.proofs.lemmas.List.{take-append-drop, get_or-take, get_or-drop, length-take-le, append-nil}
use Rattle.std.proofs.lemmas.List.Elements.{filter-append}
use Rattle.std.proofs.lemmas.List.Sorted.{IsPartitionedBy-ltb}
use Rattle.std.proofs.Common.{length-drop, ltb}

not_tied_below : (o : Ordering) → is_lt o ≡ true → is_eq o ≡ false
not_tied_below Less h = refl
not_tied_below Equal h = cc
not_tied_below Greater h = refl

not_tied_above : (o : Ordering) → is_le o ≡ false → is_eq o ≡ false
not_tied_above Less h = refl
not_tied_above Equal h = cc
not_tied_above Greater h = refl

tied_between : (o : Ordering) → is_lt o ≡ false → is_le o ≡ true → is_eq o ≡ true
tied_between Less h i = cc
tied_between Equal h i = refl
tied_between Greater h i = cc

-- what rises is less at its front, and no more than equal at its front
less_is : (o : Ordering) → ltb (ordering_index o) 1 ≡ is_lt o
less_is Less = refl
less_is Equal = refl
less_is Greater = refl

at_most_is : (o : Ordering) → ltb (ordering_index o) 2 ≡ is_le o
at_most_is Less = refl
at_most_is Equal = refl
at_most_is Greater = refl

parted_as : {X : Type 0} (p q : X → Bool) → ((x : X) → p x ≡ q x) → (xs : List X) → IsPartitionedBy p xs → IsPartitionedBy q xs
parted_as p q same xs parted i j d le lt h =
    sym (same (get_or xs i d)) ∙ parted i j d le lt (same (get_or xs j d) ∙ h)

pub less_in_front : {X : Type 0} (c : X → Ordering) (xs : List X) → IsNonDecreasingBy (λ x. ordering_index (c x)) xs → IsPartitionedBy (λ x. is_lt (c x)) xs
less_in_front c xs up = parted_as (λ x. ltb (ordering_index (c x)) 1) (λ x. is_lt (c x)) (λ x. less_is (c x)) xs (IsPartitionedBy-ltb (λ x. ordering_index (c x)) xs 1 up)

pub at_most_in_front : {X : Type 0} (c : X → Ordering) (xs : List X) → IsNonDecreasingBy (λ x. ordering_index (c x)) xs → IsPartitionedBy (λ x. is_le (c x)) xs
at_most_in_front c xs up = parted_as (λ x. ltb (ordering_index (c x)) 2) (λ x. is_le (c x)) (λ x. at_most_is (c x)) xs (IsPartitionedBy-ltb (λ x. ordering_index (c x)) xs 2 up)

-- a filter that keeps none, and one that keeps all
pub filter_none : {X : Type 0} (q : X → Bool) (xs : List X) → All (λ x. q x ≡ false) xs → filter q xs ≡ []
filter_none q [] h = refl
filter_none q (x ∷ xs) h = rw (h 0 x (omega arith)) (filter_none q xs (λ k d lt. h (suc k) d (omega arith)))

filter_all : {X : Type 0} (q : X → Bool) (xs : List X) → All (λ x. q x ≡ true) xs → filter q xs ≡ xs
filter_all q [] h = refl
filter_all q (x ∷ xs) h = rw (h 0 x (omega arith)) (ap (λ ys. x ∷ ys) (filter_all q xs (λ k d lt. h (suc k) d (omega arith))))

-- what ties stands between
pub tied_span : {X : Type 0} (c : X → Ordering) (xs : List X) (start n : ℕ) → start ≤ length xs → n ≤ length (drop start xs)
    → IsPartitionPoint (λ x. is_lt (c x) ≡ true) (λ x. is_lt (c x) ≡ false) xs start
    → IsPartitionPoint (λ x. is_le (c x) ≡ true) (λ x. is_le (c x) ≡ false) (drop start xs) n
    → take n (drop start xs) ≡ filter (λ x. is_eq (c x)) xs
tied_span {X = X} c xs start n s_in n_in first second =
    sym (
    ap (filter q) (sym (take-append-drop start xs))
    ∙ filter-append q (take start xs) ys
    ∙ ap (λ t. t ++ filter q ys) (filter_none q (take start xs) front)
    ∙ ap (filter q) (sym (take-append-drop n ys))
    ∙ filter-append q (take n ys) (drop n ys)
    ∙ ap (λ t. filter q (take n ys) ++ t) (filter_none q (drop n ys) back)
    ∙ append-nil (filter q (take n ys))
    ∙ filter_all q (take n ys) middle
    )
  where
    q : X → Bool
    q x = is_eq (c x)

    ys : List X
    ys = drop start xs

    front : All (λ x. is_eq (c x) ≡ false) (take start xs)
    front k d lt =
        let long = length-take-le start xs s_in in
        let in_front : k < start = omega (arith, long) in
        subst (λ x. is_eq (c x) ≡ false) (sym (get_or-take start xs k d in_front)) (not_tied_below (c (get_or xs k d)) (first.0 k d (omega arith) in_front))

    back : All (λ x. is_eq (c x) ≡ false) (drop n ys)
    back k d lt =
        let long = length-drop n ys in
        subst (λ x. is_eq (c x) ≡ false) (sym (get_or-drop n ys k d)) (not_tied_above (c (get_or ys (n + k) d)) (second.1 (n + k) d (omega arith) (omega (arith, long))))

    middle : All (λ x. is_eq (c x) ≡ true) (take n ys)
    middle k d lt =
        let long = length-take-le n ys n_in in
        let in_front : k < n = omega (arith, long) in
        let behind = length-drop start xs in
        subst (λ x. is_eq (c x) ≡ true) (sym (get_or-take n ys k d in_front))
        (tied_between (c (get_or ys k d)) (subst (λ x. is_lt (c x) ≡ false) (sym (get_or-drop start xs k d)) (first.1 (start + k) d (omega arith) (omega (arith, behind)))) (second.0 k d (omega arith) in_front))
