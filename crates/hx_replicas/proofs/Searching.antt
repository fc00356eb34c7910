-- What a search finds.
use Rattle.std.proofs.Common.{◌≡◌, ℕ, ◌<◌, ◌≤◌, List, [], ◌∷◌, map, length, get_or, arith, refl, Bool, true, false, None, Some}
use Rattle.std.specs.List.{find, position, position_or_len, list_any}
use Rattle.std.specs.Option.{option_map}
use Rattle.std.proofs.lemmas.Grind.{common_steps}
use Rattle.std.proofs.lemmas.Bool.Decides.{nat_tests}
use Rattle.std.proofs.lemmas.List.Folds.{find_at}
use Rattle.std.proofs.lemmas.List.Quantifiers.{position-Some}
use Rattle.std.proofs.lemmas.Option.{slice_get_past, slice_get-get_or}

pub find-map : {X Y : Type 0} (f : X → Y) (q : Y → Bool) (xs : List X) → find q (map f xs) ≡ option_map f (find (λ x. q (f x)) xs)
find-map f q [] = refl
find-map f q (x ∷ xs) = grind (arith, common_steps, find-map f q xs)

module _ {X : Type 0} (p : X → Bool) (xs : List X) where
  place_is : (i : ℕ) → position p xs ≡ Some i → i ≡ position_or_len p xs
  place_is i e = grind (arith, nat_tests, e)

  -- a list without items has no place, so none has to be named
  pub place-in : (i : ℕ) → position p xs ≡ Some i → i < length xs
  place-in i e = grind (arith, nat_tests, e)

  none-past : position p xs ≡ None → length xs ≤ position_or_len p xs
  none-past e = grind (arith, nat_tests, e)

  pub found-in : (i : ℕ) (d : X) → position p xs ≡ Some i → i < length xs
  found-in i d e = (position-Some p xs i d e).0

  pub found-passes : (i : ℕ) (x : X) → position p xs ≡ Some i → x ≡ get_or xs i x → p x ≡ true
  found-passes i x e at_i = let passes = (position-Some p xs i x e).1 in rw (← at_i) at passes

  pub found-first : (i : ℕ) (x : X) → position p xs ≡ Some i → x ≡ get_or xs i x → find p xs ≡ Some x
  found-first i x e at_i =
      let lt : i < length xs = found-in i x e in
      rw (find_at p xs, ← place_is i e, slice_get-get_or xs i x lt, ← at_i) refl

  pub found-none : position p xs ≡ None → find p xs ≡ None
  found-none e = rw (find_at p xs) (slice_get_past xs (position_or_len p xs) (none-past e))

pub none-any : {X : Type 0} (p : X → Bool) (xs : List X) → find p xs ≡ None → list_any p xs ≡ false
none-any p [] e = refl
none-any p (x ∷ xs) e = grind (arith, common_steps, none-any p xs)
