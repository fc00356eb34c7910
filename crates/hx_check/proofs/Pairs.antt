-- Lists whose items are compared one by one, from a place on.
use Rattle.std.proofs.Common.{◌≡◌, ◌≢◌, ℕ, suc, ◌+◌, ◌<◌, ◌≤◌, ◌&&◌, Bool, true, false, List, [], ◌∷◌, length, map, drop, get_or, refl, sym, ap, ◌∙◌, drop-cons, arith}
use Rattle.std.specs.Cmp.Lexicographic.{pointwise}
use Rattle.std.proofs.lemmas.List.{drop_all, get_or-map, length-map}

module _ {K : Type 0} (P : K → K → Bool) where
  pub apart_lengths : (xs ys : List K) → length xs ≢ length ys → pointwise P xs ys ≡ false
  apart_lengths [] [] other = absurd (other refl)
  apart_lengths [] (y ∷ ys) other = refl
  apart_lengths (x ∷ xs) [] other = refl
  apart_lengths (x ∷ xs) (y ∷ ys) other = one (P x y) (apart_lengths xs ys (λ e. other (ap (λ n. suc n) e)))
    where
      one : (b : Bool) → pointwise P xs ys ≡ false → (b && pointwise P xs ys) ≡ false
      one true apart = apart
      one false apart = refl

  here : (xs : List K) (i : ℕ) (d : K) → i < length xs → drop i xs ≡ get_or xs i d ∷ drop (i + 1) xs
  here xs i d lt = drop-cons xs i d lt ∙ ap (λ k. get_or xs i d ∷ drop k xs) (let same : suc i ≡ i + 1 = omega arith in same)

  pair_at : (xs ys : List K) (i : ℕ) (d e : K) → i < length xs → i < length ys
      → pointwise P (drop i xs) (drop i ys) ≡ (P (get_or xs i d) (get_or ys i e) && pointwise P (drop (i + 1) xs) (drop (i + 1) ys))
  pair_at xs ys i d e lt too = ap (λ l. pointwise P l (drop i ys)) (here xs i d lt) ∙ ap (pointwise P (get_or xs i d ∷ drop (i + 1) xs)) (here ys i e too)

  -- a pair that differs, the next pair, and the end
  pub pair_differs : (xs ys : List K) (i : ℕ) (d e : K) (r whole : Bool) → whole ≡ pointwise P (drop i xs) (drop i ys) → i < length xs → i < length ys
      → r ≡ P (get_or xs i d) (get_or ys i e) → r ≡ false → false ≡ whole
  pair_differs xs ys i d e r whole all lt too is differs =
      sym (all ∙ pair_at xs ys i d e lt too ∙ ap (λ (b : Bool). b && pointwise P (drop (i + 1) xs) (drop (i + 1) ys)) (sym is ∙ differs))

  pub pairs_on : (xs ys : List K) (i : ℕ) (d e : K) (r whole : Bool) → whole ≡ pointwise P (drop i xs) (drop i ys) → i < length xs → i < length ys
      → r ≡ P (get_or xs i d) (get_or ys i e) → r ≡ true → whole ≡ pointwise P (drop (i + 1) xs) (drop (i + 1) ys)
  pairs_on xs ys i d e r whole all lt too is same =
      all ∙ pair_at xs ys i d e lt too ∙ ap (λ (b : Bool). b && pointwise P (drop (i + 1) xs) (drop (i + 1) ys)) (sym is ∙ same)

  pub pairs_end : (xs ys : List K) (n : ℕ) (whole : Bool) → whole ≡ pointwise P (drop n xs) (drop n ys) → length xs ≤ n → length ys ≤ n → true ≡ whole
  pairs_end xs ys n whole all few too = sym (all ∙ ap (λ l. pointwise P l (drop n ys)) (drop_all n xs few) ∙ ap (pointwise P []) (drop_all n ys too))

  -- where one side is told by other items
  pub left_differs : {X : Type 0} (f : X → K) (xs : List X) (ys : List K) (i : ℕ) (d : X) (e x : K) (r whole : Bool) → whole ≡ pointwise P (drop i (map f xs)) (drop i ys)
      → length xs ≡ length ys → i < length xs → x ≡ f (get_or xs i d) → r ≡ P x (get_or ys i e) → r ≡ false → false ≡ whole
  left_differs f xs ys i d e x r whole all long lt at is differs =
      pair_differs (map f xs) ys i (f d) e r whole all (omega (arith, length-map xs f, lt)) (omega (arith, long, lt))
      (is ∙ ap (λ a. P a (get_or ys i e)) (at ∙ sym (get_or-map f xs i d (f d) lt))) differs

  pub left_on : {X : Type 0} (f : X → K) (xs : List X) (ys : List K) (i : ℕ) (d : X) (e x : K) (r whole : Bool) → whole ≡ pointwise P (drop i (map f xs)) (drop i ys)
      → length xs ≡ length ys → i < length xs → x ≡ f (get_or xs i d) → r ≡ P x (get_or ys i e) → r ≡ true → whole ≡ pointwise P (drop (i + 1) (map f xs)) (drop (i + 1) ys)
  left_on f xs ys i d e x r whole all long lt at is same =
      pairs_on (map f xs) ys i (f d) e r whole all (omega (arith, length-map xs f, lt)) (omega (arith, long, lt))
      (is ∙ ap (λ a. P a (get_or ys i e)) (at ∙ sym (get_or-map f xs i d (f d) lt))) same

  pub right_differs : {Y : Type 0} (xs : List K) (g : Y → K) (ys : List Y) (i : ℕ) (d : K) (e : Y) (r whole : Bool) → whole ≡ pointwise P (drop i xs) (drop i (map g ys))
      → length xs ≡ length ys → i < length xs → r ≡ P (get_or xs i d) (g (get_or ys i e)) → r ≡ false → false ≡ whole
  right_differs xs g ys i d e r whole all long lt is differs =
      let too : i < length ys = omega (arith, long, lt) in
      pair_differs xs (map g ys) i d (g e) r whole all lt (omega (arith, length-map ys g, too)) (is ∙ ap (P (get_or xs i d)) (sym (get_or-map g ys i e (g e) too))) differs

  pub right_on : {Y : Type 0} (xs : List K) (g : Y → K) (ys : List Y) (i : ℕ) (d : K) (e : Y) (r whole : Bool) → whole ≡ pointwise P (drop i xs) (drop i (map g ys))
      → length xs ≡ length ys → i < length xs → r ≡ P (get_or xs i d) (g (get_or ys i e)) → r ≡ true → whole ≡ pointwise P (drop (i + 1) xs) (drop (i + 1) (map g ys))
  right_on xs g ys i d e r whole all long lt is same =
      let too : i < length ys = omega (arith, long, lt) in
      pairs_on xs (map g ys) i d (g e) r whole all lt (omega (arith, length-map ys g, too)) (is ∙ ap (P (get_or xs i d)) (sym (get_or-map g ys i e (g e) too))) same
