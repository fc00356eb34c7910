-- A list in order of part, taken apart at a part.
use Rattle.std.proofs.Common.{◌≡◌, ℕ, ◌+◌, ◌-◌, ◌<◌, ◌≤◌, ◌&&◌, not, Bool, true, false, List, [], ◌∷◌, length, take, drop, get_or, refl, sym, ◌∙◌, ap, subst, arith}
use Rattle.std.specs.Prelude.{filter, min, nat_lt}
use Rattle.std.specs.List.{All, AllWithin}
use Rattle.std.specs.List.Sorted.{IsPartitionedBy, IsPartitionPoint}
use Rattle.std.proofs.lemmas.Bool.Decides.{nat_tests}
use Rattle.std.proofs.lemmas.List.{append-nil, length-drop, length-take, length-take-le, get_or-drop, get_or-take, take-append-drop}
use Rattle.std.proofs.lemmas.List.Elements.{filter-append, filter_agree}
use Rattle.std.proofs.lemmas.List.Sorted.{sorted_far}
use Rattle.hx_ids.specs.declared.PartId.{PartId}
use Rattle.hx_cluster.specs.Ends.{part_eq, part_before}
use Rattle.hx_parts.specs.Parts.{items_at, IsByPart}
use Rattle.hx_parts.proofs.Ordered.{parts_rank, none_pass, all_pass, run_ends}
use Rattle.hx_parts.specs.Marks.{before, behind}

-- those that pass are at the front, and those that don't behind them
module _ {X : Type 0} (q : X → Bool) (xs : List X) (n : ℕ) (le : n ≤ length xs) (point : IsPartitionPoint (λ y. q y ≡ true) (λ y. q y ≡ false) xs n) where
  front : All (λ y. q y ≡ true) (take n xs)
  front = λ k d lt. rw (get_or-take n xs k d (omega (arith, length-take-le n xs le))) (point.0 k d (omega arith) (omega (arith, length-take-le n xs le)))

  back : All (λ y. q y ≡ false) (drop n xs)
  back = λ k d lt. rw (get_or-drop n xs k d) (point.1 (n + k) d (omega arith) (omega (arith, length-drop n xs)))

  pub passing : take n xs ≡ filter q xs
  passing =
      sym (ap (filter q) (sym (take-append-drop n xs)) ∙ filter-append q (take n xs) (drop n xs) ∙ rw (all_pass q (take n xs) front, none_pass q (drop n xs) back) (append-nil (take n xs)))

  front_fails : All (λ y. not (q y) ≡ false) (take n xs)
  front_fails = λ k d lt. ap not (front k d lt)

  back_passes : All (λ y. not (q y) ≡ true) (drop n xs)
  back_passes = λ k d lt. ap not (back k d lt)

  pub failing : drop n xs ≡ filter (λ y. not (q y)) xs
  failing =
      sym (ap (filter (λ y. not (q y))) (sym (take-append-drop n xs)) ∙ filter-append (λ y. not (q y)) (take n xs) (drop n xs)
      ∙ rw (none_pass (λ y. not (q y)) (take n xs) front_fails, all_pass (λ y. not (q y)) (drop n xs) back_passes) refl)

pub filter_twice : {X : Type 0} (p q : X → Bool) (xs : List X) → filter q (filter p xs) ≡ filter (λ x. p x && q x) xs
filter_twice p q [] = refl
filter_twice p q (x ∷ xs) = grind (arith, filter_twice p q xs)

module _ {X : Type 0} (part_of : X → PartId) (p : PartId) where
  abbrev pub is_before : X → Bool
  is_before x = part_before (part_of x) p

  abbrev pub is_upto : X → Bool
  is_upto x = not (part_before p (part_of x))

  -- a list in order of part can be searched for where a part begins and ends
  pub begins : (xs : List X) → IsByPart part_of xs → IsPartitionedBy (λ y. part_before (part_of y) p) xs
  begins xs up i j d le lt e =
      grind (arith, nat_tests, e, sorted_far (λ x y. part_before (part_of x) (part_of y)) (parts_rank part_of) xs up i j d le lt)

  pub ends : (xs : List X) → IsByPart part_of xs → IsPartitionedBy (λ y. not (part_before p (part_of y))) xs
  ends xs up i j d le lt e =
      grind (arith, nat_tests, e, sorted_far (λ x y. part_before (part_of x) (part_of y)) (parts_rank part_of) xs up i j d le lt)

  pub dropped_by_part : (xs : List X) (n : ℕ) → n ≤ length xs → IsByPart part_of xs → IsByPart part_of (drop n xs)
  dropped_by_part xs n le up k d ge lt =
      let long : n + k + 1 < length xs = omega (arith, length-drop n xs) in
      let next : n + (k + 1) ≡ n + k + 1 = omega arith in
      rw (get_or-drop n xs k d, get_or-drop n xs (k + 1) d, next) (up (n + k) d (omega arith) long)

  -- of those that aren't before it, those up to it are its own, and the others behind it
  pub own : (xs : List X) → filter is_upto (filter (λ x. not (is_before x)) xs) ≡ items_at part_of p xs
  own xs =
      filter_twice (λ x. not (is_before x)) is_upto xs
      ∙ filter_agree (λ x. not (is_before x) && is_upto x) (λ x. part_eq (part_of x) p) (λ x. grind (arith, nat_tests)) xs

  pub later : (xs : List X) → filter (λ x. not (is_upto x)) (filter (λ x. not (is_before x)) xs) ≡ behind part_of p xs
  later xs =
      filter_twice (λ x. not (is_before x)) (λ x. not (is_upto x)) xs
      ∙ filter_agree (λ x. not (is_before x) && not (is_upto x)) (λ x. part_before p (part_of x)) (λ x. grind (arith, nat_tests)) xs

  -- the pieces before, at and behind the part: behind so many items that come before it, and so many behind these that don't come behind it
  pub record IsTaken (xs first own_ones last : List X) : Type 0 where
    pub before : first ≡ before part_of p xs
    pub at : own_ones ≡ items_at part_of p xs
    pub behind : last ≡ behind part_of p xs
    pub by_part : IsByPart part_of last

  pub taken : (xs : List X) (n m : ℕ) (first rest own_ones last : List X) → IsByPart part_of xs
      → n ≤ length xs → IsPartitionPoint (λ y. is_before y ≡ true) (λ y. is_before y ≡ false) xs n → first ≡ take n xs → rest ≡ drop n xs
      → m ≤ length rest → AllWithin (λ y. is_upto y ≡ true) rest 0 m → ((d : X) → m < length rest → is_upto (get_or rest m d) ≡ false) → own_ones ≡ take m rest → last ≡ drop m rest
      → IsTaken xs first own_ones last
  taken xs n m first rest own_ones last up fits point first_is rest_is long run stops own_is last_is =
      let later_are : rest ≡ filter (λ x. not (is_before x)) xs = rest_is ∙ failing is_before xs n fits point in
      let rest_up : IsByPart part_of rest = subst (IsByPart part_of) (sym rest_is) (dropped_by_part xs n fits up) in
      let end = run_ends is_upto rest (ends rest rest_up) m run stops in
      record {
        before = first_is ∙ passing is_before xs n fits point;
        at = own_is ∙ passing is_upto rest m long end ∙ ap (filter is_upto) later_are ∙ own xs;
        behind = last_is ∙ failing is_upto rest m long end ∙ ap (filter (λ x. not (is_upto x))) later_are ∙ later xs;
        by_part = subst (IsByPart part_of) (sym last_is) (dropped_by_part rest m long rest_up);
      }

  -- where those up to a place come before the part, the last that does is near: it is among the next ones, so many that the one behind them doesn't
  module _ (xs : List X) (up : IsByPart part_of xs) (from w : ℕ) (near : List X) (is : near ≡ take w (drop from xs)) where
    many : length near ≡ min w (length xs - from)
    many = ap length is ∙ length-take w (drop from xs) ∙ ap (min w) (length-drop from xs)

    near_at : (k : ℕ) (d : X) → k < length near → get_or near k d ≡ get_or xs (from + k) d
    near_at k d lt =
        ap (λ (ys : List X). get_or ys k d) is ∙ get_or-take w (drop from xs) k d (omega (arith, many)) ∙ get_or-drop from xs k d

    pub near_begins : IsPartitionedBy (λ y. part_before (part_of y) p) near
    near_begins i j d le lt e =
        ap is_before (near_at i d (omega arith))
        ∙ begins xs up (from + i) (from + j) d (omega arith) (omega (arith, many)) (sym (ap is_before (near_at j d lt)) ∙ e)

    module _ (fits : from ≤ length xs) (so_far : AllWithin (λ y. is_before y ≡ true) xs 0 from)
        (step : ℕ) (least : w ≡ min step (length xs - from)) (stops : (d : X) → step < length xs - from → is_before (get_or xs (from + step) d) ≡ false)
        (m : ℕ) (long : m ≤ length near) (point : IsPartitionPoint (λ y. is_before y ≡ true) (λ y. is_before y ≡ false) near m) where
      passed : (k : ℕ) (d : X) → k < from + m → (b : Bool) → nat_lt k from ≡ b → is_before (get_or xs k d) ≡ true
      passed k d lt true e = so_far k d (omega arith) (grind (arith, nat_tests, e))
      passed k d lt false e =
          let ge : from ≤ k = grind (arith, nat_tests, e) in
          let sum : from + (k - from) ≡ k = omega arith in
          let less : k - from < m = omega arith in
          ap (λ (i : ℕ). is_before (get_or xs i d)) (sym sum) ∙ sym (ap is_before (near_at (k - from) d (omega (arith, less, long)))) ∙ point.0 (k - from) d (omega arith) less

      stopped : (d : X) → from + m < length xs → (b : Bool) → nat_lt m (length near) ≡ b → is_before (get_or xs (from + m) d) ≡ false
      stopped d lt true e =
          let less : m < length near = grind (arith, nat_tests, e) in
          sym (ap is_before (near_at m d less)) ∙ point.1 m d (omega arith) less
      stopped d lt false e =
          let ge : length near ≤ m = grind (arith, nat_tests, e) in
          let all : m ≡ step = omega (arith, many, least, ge, long, lt) in
          ap (λ (i : ℕ). is_before (get_or xs (from + i) d)) all ∙ stops d (omega (arith, many, least, ge, long, lt))

      pub front_point : IsPartitionPoint (λ y. is_before y ≡ true) (λ y. is_before y ≡ false) xs (from + m)
      front_point =
          run_ends is_before xs (begins xs up) (from + m) (λ k d ge lt. passed k d lt (nat_lt k from) refl) (λ d lt. stopped d lt (nat_lt m (length near)) refl)
