-- Words and names that are printed are cut and found again.
use Rattle.std.proofs.Common.{◌≡◌, ℕ, zero, suc, ◌+◌, ◌<◌, Bool, true, false, not, ◌==◌, cond, nat_lt, List, [], ◌∷◌, ◌++◌, length, get_or, take, drop, All, filter, Some, refl, sym, ap, ◌∙◌, append-nil, arith}
use Rattle.std.proofs.lemmas.Bool.{and_parts, eqb-true}
use Rattle.std.proofs.lemmas.Bool.Decides.{nat_tests}
use Rattle.std.proofs.lemmas.List.Splits.{slice_split_none, slice_split_at}
use Rattle.std.proofs.lemmas.List.Sums.{AllPass-from_list_all}
use Rattle.std.proofs.lemmas.Slice.Eq.{bytes_eq-Decides}
use Rattle.std.proofs.lemmas.Option.{unwrap_or-slice_get}
use Rattle.std.specs.Prelude.{slice_get, unwrap_or}
use Rattle.std.specs.List.{list_all, slice_split, position_or_len, prefix_len, before_first, after_first, flat_map}
use Rattle.std.specs.Str.{bytes_eq}
use Rattle.hx_lists.specs.Lists.{count}
use Rattle.hx_ids.specs.Names.{place_of, place_after}

-- what stands before a sign and behind it, where the sign stands nowhere before
pub cut_here : (p : ℕ → Bool) (xs : List ℕ) (y : ℕ) (ys : List ℕ) → All (λ b. p b ≡ false) xs → p y ≡ true
    → (before_first p (xs ++ y ∷ ys) ≡ xs) × (after_first p (xs ++ y ∷ ys) ≡ ys) × (nat_lt (position_or_len p (xs ++ y ∷ ys)) (length (xs ++ y ∷ ys)) ≡ true)
cut_here p [] y ys none is = rw is (refl, refl, grind (arith, nat_tests))
cut_here p (x ∷ xs) y ys none is =
    let first : p x ≡ false = none 0 0 (omega arith) in
    let rest = cut_here p xs y ys (λ k d lt. none (suc k) d (omega arith)) is in
    let n = position_or_len p (xs ++ y ∷ ys) in
    let one : 1 + n ≡ suc n = omega arith in
    let two : 1 + n + 1 ≡ suc (n + 1) = omega arith in
    rw first (
      ap (λ k. take k (x ∷ xs ++ y ∷ ys)) one ∙ ap (λ l. x ∷ l) rest.0,
      ap (λ k. drop k (x ∷ xs ++ y ∷ ys)) two ∙ rest.1,
      grind (arith, nat_tests, rest.2),
    )

not_passed : (b : Bool) → not b ≡ true → b ≡ false
not_passed true e = sym e
not_passed false e = refl

-- the words of a line, with one space between them
pub split_joined : (p : ℕ → Bool) (w : List ℕ) (ws : List (List ℕ)) → list_all (list_all (λ b. not (p b))) (w ∷ ws) ≡ true → p 32 ≡ true → slice_split p (w ++ flat_map (λ v. 32 ∷ v) ws) ≡ w ∷ ws
split_joined p w [] plain space =
    let first = and_parts (list_all (λ b. not (p b)) w) true plain in
    ap (slice_split p) (append-nil w) ∙ slice_split_none p w (λ k d lt. not_passed (p (get_or w k d)) (AllPass-from_list_all (λ b. not (p b)) w first.0 k d lt))
split_joined p w (v ∷ ws) plain space =
    let first = and_parts (list_all (λ b. not (p b)) w) (list_all (list_all (λ b. not (p b))) (v ∷ ws)) plain in
    slice_split_at p w 32 (v ++ flat_map (λ v. 32 ∷ v) ws) (λ k d lt. not_passed (p (get_or w k d)) (AllPass-from_list_all (λ b. not (p b)) w first.0 k d lt)) space
    ∙ ap (λ l. w ∷ l) (split_joined p v ws first.1 space)

-- the place of an item that is the only one to pass
some_there : {X : Type 0} (p : X → Bool) (xs : List X) (n : ℕ) (d : X) → n < length xs → p (get_or xs n d) ≡ true → 1 < count p xs + 1
some_there p [] n d lt is = absurd (omega arith)
some_there p (x ∷ xs) zero d lt is = rw is (omega arith)
some_there p (x ∷ xs) (suc n) d lt is = let more = some_there p xs n d (omega arith) is in grind arith

only_place : {X : Type 0} (p : X → Bool) (xs : List X) (n : ℕ) (d : X) → n < length xs → p (get_or xs n d) ≡ true → count p xs ≡ 1 → position_or_len p xs ≡ n
only_place p [] n d lt is once = absurd (omega arith)
only_place p (x ∷ xs) zero d lt is once = rw is refl
only_place p (x ∷ xs) (suc n) d lt is once = one (p x) refl (only_place p xs n d (omega arith) is) once
  where
    one : (b : Bool) → p x ≡ b → (count p xs ≡ 1 → position_or_len p xs ≡ n) → length (cond b (x ∷ filter p xs) (filter p xs)) ≡ 1 → cond (not b) (1 + prefix_len (λ x. not (p x)) xs) 0 ≡ suc n
    one true here rest once = let more = some_there p xs n d (omega arith) is in absurd (omega arith)
    one false here rest once = let at = rest once in omega arith

pub place_after_again : (names : List (List ℕ)) (n : ℕ) → list_all (λ x. count (bytes_eq x) names == 1) names ≡ true → n < length names → place_after names (unwrap_or (slice_get names n) []) ≡ n
place_after_again names n distinct lt =
    let once = eqb-true (count (bytes_eq (get_or names n [])) names) 1 (AllPass-from_list_all (λ x. count (bytes_eq x) names == 1) names distinct n [] lt) in
    ap (place_after names) (unwrap_or-slice_get names n []) ∙ only_place (bytes_eq (get_or names n [])) names n [] lt ((bytes_eq-Decides (get_or names n []) (get_or names n [])).1 refl) once

pub place_again : (names : List (List ℕ)) (n : ℕ) → list_all (λ x. count (bytes_eq x) names == 1) names ≡ true → n < length names → place_of names (unwrap_or (slice_get names n) []) ≡ Some n
place_again names n distinct lt = let at = place_after_again names n distinct lt in grind (arith, nat_tests, at)
