-- A spliced list is in order of part, and has what is new of the parts and what is old of the others.
use Rattle.std.proofs.Common.{◌≡◌, ℕ, zero, suc, ◌+◌, ◌<◌, ◌≤◌, ◌&&◌, ◌||◌, not, Bool, true, false, List, [], ◌∷◌, ◌++◌, length, drop, get_or, refl, sym, ◌∙◌, ap, subst, arith}
use Rattle.std.specs.Prelude.{filter, if◌then◌else◌}
use Rattle.std.specs.List.{list_any, list_all}
use Rattle.std.proofs.lemmas.Bool.Decides.{nat_tests}
use Rattle.std.proofs.lemmas.List.{append-nil, append_assoc}
use Rattle.std.proofs.lemmas.List.Elements.{filter-append}
use Rattle.std.proofs.lemmas.List.Sorted.{sorted_far}
use Rattle.hx_ids.specs.declared.PartId.{PartId}
use Rattle.hx_cluster.specs.Ends.{part_eq, part_before}
use Rattle.hx_parts.specs.Parts.{items_at, IsByPart}
use Rattle.hx_parts.proofs.Ordered.{parts_rank}
use Rattle.hx_parts.specs.Marks.{before, behind, spliced, are_rising, IsSpliced}
use Rattle.hx_lists.proofs.Conditions.{all-filter}

-- ---- the loop
abbrev pub first_part : PartId
first_part = record { resource = record { 0 = 0 }; index = 0 }

drop_first : (parts : List PartId) (i : ℕ) → i < length parts → drop i parts ≡ get_or parts i first_part ∷ drop (suc i) parts
drop_first [] i lt = grind (arith, lt)
drop_first (p ∷ parts) zero lt = refl
drop_first (p ∷ parts) (suc i) lt = drop_first parts i (omega (arith, lt))

drop_all : (parts : List PartId) (i : ℕ) → length parts ≤ i → drop i parts ≡ []
drop_all [] zero le = refl
drop_all [] (suc i) le = refl
drop_all (p ∷ parts) zero le = grind (arith, le)
drop_all (p ∷ parts) (suc i) le = drop_all parts i (omega (arith, le))

module _ {X : Type 0} (part_of : X → PartId) where
  pub step : (parts : List PartId) (i : ℕ) (p : PartId) → i < length parts → p ≡ get_or parts i first_part → (out old new more there coming left rest total : List X)
      → out ++ spliced part_of (drop i parts) old new ≡ total
      → there ≡ before part_of p old → left ≡ behind part_of p old
      → coming ≡ items_at part_of p new → rest ≡ behind part_of p new
      → more ≡ out ++ there ++ coming
      → more ++ spliced part_of (drop (i + 1) parts) left rest ≡ total
  step parts i p lt is out old new more there coming left rest total so e f g h m =
      let next : suc i ≡ i + 1 = omega arith in
      let now : drop i parts ≡ p ∷ drop (i + 1) parts = drop_first parts i lt ∙ ap (λ (j : ℕ). get_or parts i first_part ∷ drop j parts) next ∙ ap (λ (q : PartId). q ∷ drop (i + 1) parts) (sym is) in
      let tail : List X = spliced part_of (drop (i + 1) parts) (behind part_of p old) (behind part_of p new) in
      rw (m, e, f, g, h)
      (append_assoc (out ++ before part_of p old) (items_at part_of p new) tail ∙ append_assoc out (before part_of p old) (items_at part_of p new ++ tail)
      ∙ ap (λ (ys : List X). out ++ ys) (sym (append_assoc (before part_of p old) (items_at part_of p new) tail))
      ∙ sym (ap (λ (ps : List PartId). out ++ spliced part_of ps old new) now) ∙ so)

  pub finish : (parts : List PartId) (i : ℕ) → length parts ≤ i → (out old new end total : List X) → out ++ spliced part_of (drop i parts) old new ≡ total → end ≡ out ++ old → end ≡ total
  finish parts i le out old new end total so is =
      is ∙ sym (ap (λ (ps : List PartId). out ++ spliced part_of ps old new) (drop_all parts i le)) ∙ so

  -- ---- what it has of each part
  none_either : (b : Bool) → items_at part_of first_part [] ≡ (if b then [] else [])
  none_either true = refl
  none_either false = refl

  -- of items of parts that pass a test, those of a part are all or none
  passing_at : (t : PartId → Bool) (q : PartId) → ((a : PartId) → part_eq a q ≡ true → t a ≡ t q) → (xs : List X) → items_at part_of q (filter (λ x. t (part_of x)) xs) ≡ (if t q then items_at part_of q xs else [])
  passing_at t q same [] = none_either (t q)
  passing_at t q same (x ∷ xs) = one (part_eq (part_of x) q) refl (t q) refl (t (part_of x)) refl (passing_at t q same xs)
    where
      one : (a : Bool) → part_eq (part_of x) q ≡ a → (b : Bool) → t q ≡ b → (c : Bool) → t (part_of x) ≡ c
          → items_at part_of q (filter (λ x. t (part_of x)) xs) ≡ (if t q then items_at part_of q xs else [])
          → items_at part_of q (filter (λ x. t (part_of x)) (x ∷ xs)) ≡ (if t q then items_at part_of q (x ∷ xs) else [])
      one true e b f true g more = grind (arith, e, f, g, same (part_of x) e, more)
      one true e b f false g more = grind (arith, e, f, g, same (part_of x) e, more)
      one false e true f c g more = grind (arith, e, f, g, more)
      one false e false f c g more = grind (arith, e, f, g, more)

  before_at : (p q : PartId) (xs : List X) → items_at part_of q (before part_of p xs) ≡ (if part_before q p then items_at part_of q xs else [])
  before_at p q xs = passing_at (λ a. part_before a p) q (λ a e. grind (arith, nat_tests, e)) xs

  own_at : (p q : PartId) (xs : List X) → items_at part_of q (items_at part_of p xs) ≡ (if part_eq q p then items_at part_of q xs else [])
  own_at p q xs = passing_at (λ a. part_eq a p) q (λ a e. grind (arith, nat_tests, e)) xs

  behind_at : (p q : PartId) (xs : List X) → items_at part_of q (behind part_of p xs) ≡ (if part_before p q then items_at part_of q xs else [])
  behind_at p q xs = passing_at (λ a. part_before p a) q (λ a e. grind (arith, nat_tests, e)) xs

  -- a part that isn't behind another one isn't among parts that are
  not_among : (p q : PartId) (parts : List PartId) → list_all (part_before p) parts ≡ true → part_before p q ≡ false → list_any (part_eq q) parts ≡ false
  not_among p q [] up not_before = refl
  not_among p q (r ∷ parts) up not_before = one (part_before p r) refl (not_among p q parts)
    where
      one : (b : Bool) → part_before p r ≡ b → (list_all (part_before p) parts ≡ true → part_before p q ≡ false → list_any (part_eq q) parts ≡ false) → list_any (part_eq q) (r ∷ parts) ≡ false
      one true e more = grind (arith, nat_tests, e, not_before, more (grind (arith, e, up)) not_before)
      one false e more = grind (arith, e, up)

  -- of three that stand in a row, by where a part is
  is_one : Bool → Bool → Bool → Bool → Bool
  is_one a b c l = (a && not b && not c && not l) || (not a && b && not c && not l) || (not a && not b && c)

  chosen : (a b c l : Bool) → is_one a b c l ≡ true → (old new : List X)
      → (if a then old else []) ++ (if b then new else []) ++ (if l then (if c then new else []) else (if c then old else [])) ≡ (if b || l then new else old)
  unfolding is_one
  chosen true true c l is old new = cc
  chosen true false true l is old new = cc
  chosen true false false true is old new = cc
  chosen true false false false is old new = append-nil (old ++ []) ∙ append-nil old
  chosen false true true l is old new = cc
  chosen false true false true is old new = cc
  chosen false true false false is old new = append-nil new
  chosen false false true true is old new = refl
  chosen false false true false is old new = refl
  chosen false false false l is old new = cc

  one_place : (p q : PartId) (l : Bool) → (part_before p q ≡ false → l ≡ false) → is_one (part_before q p) (part_eq q p) (part_before p q) l ≡ true
  unfolding is_one
  one_place p q true lower = two (part_before p q) refl
    where
      two : (b : Bool) → part_before p q ≡ b → is_one (part_before q p) (part_eq q p) (part_before p q) true ≡ true
      two true e = grind (arith, nat_tests, e)
      two false e = let wrong : true ≡ false = lower e in cc
  one_place p q false lower = grind (arith, nat_tests)

  pub spliced_at : (parts : List PartId) → are_rising parts ≡ true → (old new : List X) (q : PartId)
      → items_at part_of q (spliced part_of parts old new) ≡ (if list_any (part_eq q) parts then items_at part_of q new else items_at part_of q old)
  spliced_at [] up old new q = refl
  spliced_at (p ∷ parts) up old new q =
      let tail : List X = spliced part_of parts (behind part_of p old) (behind part_of p new) in
      let later : list_all (part_before p) parts ≡ true = grind (arith, up) in
      let rest : items_at part_of q tail ≡ (if list_any (part_eq q) parts then items_at part_of q (behind part_of p new) else items_at part_of q (behind part_of p old)) =
      spliced_at parts (grind (arith, up)) (behind part_of p old) (behind part_of p new) q in
      filter-append (λ x. part_eq (part_of x) q) (before part_of p old ++ items_at part_of p new) tail
      ∙ ap (λ (ys : List X). ys ++ items_at part_of q tail) (filter-append (λ x. part_eq (part_of x) q) (before part_of p old) (items_at part_of p new))
      ∙ rw (before_at p q old, own_at p q new, rest, behind_at p q new, behind_at p q old)
      (chosen (part_before q p) (part_eq q p) (part_before p q) (list_any (part_eq q) parts) (one_place p q (list_any (part_eq q) parts) (not_among p q parts later)) (items_at part_of q old) (items_at part_of q new))

  -- ---- its order
  rises : List X → Bool
  rises [] = true
  rises (x ∷ xs) = list_all (λ y. not (part_before (part_of y) (part_of x))) xs && rises xs

  all-append : (t : X → Bool) (xs ys : List X) → list_all t (xs ++ ys) ≡ (list_all t xs && list_all t ys)
  all-append t [] ys = refl
  all-append t (x ∷ xs) ys = grind (arith, all-append t xs ys)

  passes-filter : (t : X → Bool) (xs : List X) → list_all t (filter t xs) ≡ true
  passes-filter t [] = refl
  passes-filter t (x ∷ xs) = one (t x) refl (passes-filter t xs)
    where
      one : (b : Bool) → t x ≡ b → list_all t (filter t xs) ≡ true → list_all t (filter t (x ∷ xs)) ≡ true
      one true e more = grind (arith, e, more)
      one false e more = grind (arith, e, more)

  all-implied : (t u : X → Bool) → ((x : X) → t x ≡ true → u x ≡ true) → (xs : List X) → list_all t xs ≡ true → list_all u xs ≡ true
  all-implied t u so [] h = refl
  all-implied t u so (x ∷ xs) h = grind (arith, h, so x (grind (arith, h)), all-implied t u so xs (grind (arith, h)))

  rises-filter : (t : X → Bool) (xs : List X) → rises xs ≡ true → rises (filter t xs) ≡ true
  unfolding rises
  rises-filter t [] h = refl
  rises-filter t (x ∷ xs) h = one (t x) refl (rises-filter t xs (grind (arith, h)))
    where
      one : (b : Bool) → t x ≡ b → rises (filter t xs) ≡ true → rises (if b then x ∷ filter t xs else filter t xs) ≡ true
      one true e more = grind (arith, all-filter (λ y. not (part_before (part_of y) (part_of x))) t xs (grind (arith, h)), more)
      one false e more = more

  -- items up to a part, and behind them items from it on
  rises-append : (p : PartId) (xs ys : List X) → list_all (λ x. not (part_before p (part_of x))) xs ≡ true → list_all (λ y. not (part_before (part_of y) p)) ys ≡ true → rises xs ≡ true → rises ys ≡ true → rises (xs ++ ys) ≡ true
  unfolding rises
  rises-append p [] ys upto from up also = also
  rises-append p (x ∷ xs) ys upto from up also =
      let low : part_before p (part_of x) ≡ false = grind (arith, upto) in
      let over : list_all (λ y. not (part_before (part_of y) (part_of x))) ys ≡ true =
      all-implied (λ y. not (part_before (part_of y) p)) (λ y. not (part_before (part_of y) (part_of x))) (λ y h. grind (arith, nat_tests, low, h)) ys from in
      grind (arith, all-append (λ y. not (part_before (part_of y) (part_of x))) xs ys, up, over, rises-append p xs ys (grind (arith, upto)) from (grind (arith, up)) also)

  all-spliced : (t : X → Bool) (parts : List PartId) (old new : List X) → list_all t old ≡ true → list_all t new ≡ true → list_all t (spliced part_of parts old new) ≡ true
  all-spliced t [] old new h k = h
  all-spliced t (p ∷ parts) old new h k =
      let tail : List X = spliced part_of parts (behind part_of p old) (behind part_of p new) in
      all-append t (before part_of p old ++ items_at part_of p new) tail
      ∙ rw (
        all-append t (before part_of p old) (items_at part_of p new),
        all-filter t (λ x. part_before (part_of x) p) old h,
        all-filter t (λ x. part_eq (part_of x) p) new k,
        all-spliced t parts (behind part_of p old) (behind part_of p new) (all-filter t (λ x. part_before p (part_of x)) old h) (all-filter t (λ x. part_before p (part_of x)) new k),
      ) refl

  rises-spliced : (parts : List PartId) (old new : List X) → rises old ≡ true → rises new ≡ true → rises (spliced part_of parts old new) ≡ true
  rises-spliced [] old new up also = up
  rises-spliced (p ∷ parts) old new up also =
      let front : List X = before part_of p old in
      let middle : List X = items_at part_of p new in
      let tail : List X = spliced part_of parts (behind part_of p old) (behind part_of p new) in
      let behind_is : list_all (λ y. part_before p (part_of y)) tail ≡ true =
      all-spliced (λ y. part_before p (part_of y)) parts (behind part_of p old) (behind part_of p new) (passes-filter (λ y. part_before p (part_of y)) old) (passes-filter (λ y. part_before p (part_of y)) new) in
      let from : list_all (λ y. not (part_before (part_of y) p)) tail ≡ true =
      all-implied (λ y. part_before p (part_of y)) (λ y. not (part_before (part_of y) p)) (λ y h. grind (arith, nat_tests, h)) tail behind_is in
      let front_upto : list_all (λ x. not (part_before p (part_of x))) front ≡ true =
      all-implied (λ x. part_before (part_of x) p) (λ x. not (part_before p (part_of x))) (λ x h. grind (arith, nat_tests, h)) front (passes-filter (λ x. part_before (part_of x) p) old) in
      let middle_upto : list_all (λ x. not (part_before p (part_of x))) middle ≡ true =
      all-implied (λ x. part_eq (part_of x) p) (λ x. not (part_before p (part_of x))) (λ x h. grind (arith, nat_tests, h)) middle (passes-filter (λ x. part_eq (part_of x) p) new) in
      let middle_from : list_all (λ x. not (part_before (part_of x) p)) middle ≡ true =
      all-implied (λ x. part_eq (part_of x) p) (λ x. not (part_before (part_of x) p)) (λ x h. grind (arith, nat_tests, h)) middle (passes-filter (λ x. part_eq (part_of x) p) new) in
      let first : rises (front ++ middle) ≡ true = rises-append p front middle front_upto middle_from (rises-filter (λ x. part_before (part_of x) p) old up) (rises-filter (λ x. part_eq (part_of x) p) new also) in
      let upto : list_all (λ x. not (part_before p (part_of x))) (front ++ middle) ≡ true = all-append (λ x. not (part_before p (part_of x))) front middle ∙ rw (front_upto, middle_upto) refl in
      rises-append p (front ++ middle) tail upto from first
      (rises-spliced parts (behind part_of p old) (behind part_of p new) (rises-filter (λ x. part_before p (part_of x)) old up) (rises-filter (λ x. part_before p (part_of x)) new also))

  sorted_tail : (x : X) (xs : List X) → IsByPart part_of (x ∷ xs) → IsByPart part_of xs
  sorted_tail x xs up k d ge long = grind (arith, up (k + 1) d (omega arith) (omega arith))

  all-far : (t : X → Bool) (xs : List X) → ((k : ℕ) (d : X) → k < length xs → t (get_or xs k d) ≡ true) → list_all t xs ≡ true
  all-far t [] h = refl
  all-far t (x ∷ xs) h = grind (arith, h 0 x (omega arith), all-far t xs (λ k d lt. h (suc k) d (omega (arith, lt))))

  from_sorted : (xs : List X) → IsByPart part_of xs → rises xs ≡ true
  unfolding rises
  from_sorted [] up = refl
  from_sorted (x ∷ xs) up =
      let above : list_all (λ y. not (part_before (part_of y) (part_of x))) xs ≡ true =
      all-far (λ y. not (part_before (part_of y) (part_of x))) xs (λ k d lt. ap not (sorted_far (λ a b. part_before (part_of a) (part_of b)) (parts_rank part_of) (x ∷ xs) up 0 (suc k) d (omega arith) (omega (arith, lt)))) in
      grind (arith, above, from_sorted xs (sorted_tail x xs up))

  all-near : (t : X → Bool) (xs : List X) → list_all t xs ≡ true → (k : ℕ) (d : X) → k < length xs → t (get_or xs k d) ≡ true
  all-near t [] h k d lt = grind (arith, lt)
  all-near t (x ∷ xs) h zero d lt = grind (arith, h)
  all-near t (x ∷ xs) h (suc k) d lt = all-near t xs (grind (arith, h)) k d (omega (arith, lt))

  to_sorted : (xs : List X) → rises xs ≡ true → IsByPart part_of xs
  unfolding rises
  to_sorted [] h k d ge lt = grind (arith, lt)
  to_sorted (x ∷ xs) h zero d ge lt = grind (arith, all-near (λ y. not (part_before (part_of y) (part_of x))) xs (grind (arith, h)) 0 d (omega (arith, lt)))
  to_sorted (x ∷ xs) h (suc k) d ge lt =
      let next : suc (k + 1) ≡ suc k + 1 = omega arith in
      subst (λ (j : ℕ). part_before (part_of (get_or (x ∷ xs) j d)) (part_of (get_or xs k d)) ≡ false) next (to_sorted xs (grind (arith, h)) k d (omega arith) (omega (arith, lt)))

  pub done : (parts : List PartId) (old new : List X) → IsByPart part_of old → IsByPart part_of new → are_rising parts ≡ true → (out : List X) → out ≡ spliced part_of parts old new
      → IsSpliced part_of (λ p. list_any (part_eq p) parts) old new out
  done parts old new up also rising out is = record {
    by_part = subst (IsByPart part_of) (sym is) (to_sorted (spliced part_of parts old new) (rises-spliced parts old new (from_sorted old up) (from_sorted new also)));
    at = λ p. ap (items_at part_of p) is ∙ spliced_at parts rising old new p;
  }
