-- First places in lists.
use Rattle.std.proofs.Common.{◌≡◌, ℕ, suc, [], ◌∷◌, ◌+◌, ◌≤◌, ◌<◌, map, drop, get_or, find, sym, ap, add-one, drop-cons, subst, ◌∙◌, not, Bool, true, false, List, length, position, Option, Some, None, refl, arith}
use Rattle.std.specs.Prelude.{nat_lt, if◌then◌else◌}
use Rattle.std.specs.List.{position_or_len, list_any, prefix_len}
use Rattle.hx_model.specs.declared.ModelFault.{ModelFault}
use Rattle.hx_model.specs.Faults.{fault_at, twice_at}
use Rattle.std.proofs.lemmas.Bool.Decides.{nat_tests}
use Rattle.std.proofs.lemmas.List.{drop_all}
use Rattle.std.proofs.lemmas.List.Sums.{prefix_len-le-length}

-- a place that is not found is the end
pub found_none : {X : Type 0} (p : X → Bool) (xs : List X) → position p xs ≡ None → length xs ≡ position_or_len p xs
found_none p xs e = one (nat_lt (position_or_len p xs) (length xs)) refl e
  where
    most : position_or_len p xs ≤ length xs
    most = prefix_len-le-length _ xs

    one : (b : Bool) → nat_lt (position_or_len p xs) (length xs) ≡ b → (if b then Some (position_or_len p xs) else None) ≡ None → length xs ≡ position_or_len p xs
    one true is e = cc
    one false is e = grind (arith, nat_tests, most)

-- an item that is new is in no place twice
pub new_item : {X : Type 0} (same : X → X → Bool) (before : List X) (x : X) → list_any (same x) before ≡ false → twice_at same before x ≡ None
new_item same before x e = rw e refl

-- what is found from a place on: the item there, or what is found from the next
pub find_here : {X Y : Type 0} (p : Y → Bool) (f : X → Y) (xs : List X) (i : ℕ) (d : X) → i < length xs → p (f (get_or xs i d)) ≡ true → find p (map f (drop i xs)) ≡ Some (f (get_or xs i d))
find_here p f xs i d lt e = rw (drop-cons xs i d lt) (ap (λ (b : Bool). if b then Some (f (get_or xs i d)) else find p (map f (drop (suc i) xs))) e)

pub find_next : {X Y : Type 0} (p : Y → Bool) (f : X → Y) (xs : List X) (i : ℕ) (d : X) → i < length xs → p (f (get_or xs i d)) ≡ false → find p (map f (drop (i + 1) xs)) ≡ find p (map f (drop i xs))
find_next p f xs i d lt e = rw (add-one, drop-cons xs i d lt) (sym (ap (λ (b : Bool). if b then Some (f (get_or xs i d)) else find p (map f (drop (suc i) xs))) e))

pub find_end : {X Y : Type 0} (p : Y → Bool) (f : X → Y) (xs : List X) (i : ℕ) → length xs ≤ i → find p (map f (drop i xs)) ≡ None
find_end p f xs i le = rw (drop_all i xs le) refl

-- the item at a place of a walk is what is found
pub found_here : {X Y : Type 0} (p : Y → Bool) (f : X → Y) (xs items : List X) (i : ℕ) (d : X) (r : Option Y) → items ≡ xs → i < length items → p (f (get_or items i d)) ≡ true → find p (map f (drop i xs)) ≡ r → Some (f (get_or items i d)) ≡ r
found_here {X} {Y} p f xs items i d r are lt e is =
    let Q : List X → Type 0 = λ ys. i < length ys → p (f (get_or ys i d)) ≡ true → Some (f (get_or ys i d)) ≡ r in
    let here : Q xs = λ lt e. sym (find_here p f xs i d lt e) ∙ is in
    subst Q (sym are) here lt e

-- a distance at the end is none
pub is_far : (n k : ℕ) → n ≡ k → not (nat_lt n k) ≡ true
is_far n k e = grind (arith, nat_tests)

-- no place is found where none passes
pub no_place : (fault : ℕ → ModelFault) (place : Option ℕ) → fault_at fault place ≡ None → place ≡ None
no_place fault None e = refl
no_place fault (Some n) e = cc

all_fail : {X : Type 0} (p : X → Bool) (xs : List X) → list_any p xs ≡ true → prefix_len (λ x. not (p x)) xs < length xs
all_fail p [] e = cc
all_fail p (x ∷ xs) e = grind (arith, e, all_fail p xs)

pub none_passes : {X : Type 0} (p : X → Bool) (xs : List X) → position p xs ≡ None → list_any p xs ≡ false
none_passes p xs e = one (list_any p xs) refl
  where
    one : (b : Bool) → list_any p xs ≡ b → b ≡ false
    one true is = let low = all_fail p xs is in grind (arith, nat_tests, e, low)
    one false is = refl
