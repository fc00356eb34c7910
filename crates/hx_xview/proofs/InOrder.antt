-- Views stand by part, and rows by part are known by the rows of each part.
use Rattle.std.proofs.Common.{Ordering, Less, Equal, Greater, ◌≡◌, ℕ, zero, suc, ◌+◌, ◌<◌, Bool, true, false, cond, List, [], ◌∷◌, length, drop, get_or, filter, refl, sym, ap, ◌∙◌, subst, arith, add-one}
use Rattle.std.specs.Prelude.{◌&&◌, ◌||◌, nat_lt, not}
use Rattle.std.specs.List.Sorted.{ties}
use Rattle.std.specs.Ordering.{is_eq, is_lt, ordering_reverse}
use Rattle.std.proofs.lemmas.Bool.Decides.{nat_tests}
use Rattle.std.proofs.lemmas.List.Elements.{filter_agree}
use Rattle.std.proofs.lemmas.List.Sorted.{ranks_by, sorted_far}
use Rattle.hx_ids.specs.declared.PartId.{PartId}
use Rattle.hx_cluster.specs.declared.happenings.Seen.{Seen}
use Rattle.hx_cluster.specs.Ends.{part_eq, part_before}
use Rattle.hx_xview.specs.Parts.{part_cmp, IsByPart}
use Rattle.hx_xview.specs.Views.{seen_before, is_view, rows_of}
use Rattle.hx_xview.proofs.Orders.{part_total, part_tied, part_less}
use Rattle.hx_xview.proofs.Spans.{filter_none}
use Rattle.hx_lists.proofs.Conditions.{and-first, and-second}

-- ---- a view
not_turned : (o : Ordering) (n : Bool) → (is_lt o || (is_eq o && n)) ≡ true → is_lt (ordering_reverse o) ≡ false
not_turned Less n h = refl
not_turned Equal n h = refl
not_turned Greater n h = cc

neighbours : (a b : Seen) → seen_before a b ≡ true → is_lt (part_cmp b.part a.part) ≡ false
neighbours a b h =
    let o = part_cmp a.part b.part in
    let n = nat_lt a.instance.0 b.instance.0 in
    ap is_lt (part_total.antisymm b.part a.part)
    ∙ not_turned o n (ap (λ t. t || (is_eq o && n)) (part_less a.part b.part) ∙ ap (λ t. part_before a.part b.part || (t && n)) (part_tied a.part b.part) ∙ h)

steps : (rows : List Seen) → is_view rows ≡ true → (k : ℕ) (d : Seen) → suc k < length rows → is_lt (part_cmp (get_or rows (suc k) d).part (get_or rows k d).part) ≡ false
steps [] h k d lt = absurd (omega arith)
steps (r ∷ []) h k d lt = absurd (omega arith)
steps (r ∷ s ∷ rows) h zero d lt = neighbours r s (and-first (seen_before r s) _ (and-first _ (is_view (s ∷ rows)) h))
steps (r ∷ s ∷ rows) h (suc k) d lt = steps (s ∷ rows) (and-second _ (is_view (s ∷ rows)) h) k d (omega arith)

pub views_by_part : (rows : List Seen) → is_view rows ≡ true → IsByPart rows
views_by_part rows h = λ k d low lt. rw add-one (steps rows h k d (omega arith))

-- ---- what a stable sort leaves of each part
tied_ways : (o : Ordering) → (not (is_lt o) && not (is_lt (ordering_reverse o))) ≡ is_eq (ordering_reverse o)
tied_ways Less = refl
tied_ways Equal = refl
tied_ways Greater = refl

pub ties_are_parts : (a b : Seen) → ties (λ (x y : Seen). is_lt (part_cmp x.part y.part)) a b ≡ part_eq b.part a.part
ties_are_parts a b =
    let turned = part_total.antisymm b.part a.part in
    ap (λ t. not (is_lt (part_cmp a.part b.part)) && not (is_lt t)) turned ∙ tied_ways (part_cmp a.part b.part) ∙ ap is_eq (sym turned) ∙ part_tied b.part a.part

pub stable_shows : (new old : List Seen) → ((x : Seen) → filter (ties (λ (x y : Seen). is_lt (part_cmp x.part y.part)) x) new ≡ filter (ties (λ (x y : Seen). is_lt (part_cmp x.part y.part)) x) old)
    → (p : PartId) → rows_of p new ≡ rows_of p old
stable_shows new old stable p =
    let row : Seen = record { instance = record { 0 = 0 }; part = p; state = record { 0 = 0 } } in
    sym (filter_agree _ (λ r. part_eq r.part p) (ties_are_parts row) new) ∙ stable row ∙ filter_agree _ (λ r. part_eq r.part p) (ties_are_parts row) old

-- ---- rows by part
equal_from_is_eq : (o : Ordering) → is_eq o ≡ true → o ≡ Equal
equal_from_is_eq Less h = cc
equal_from_is_eq Equal h = refl
equal_from_is_eq Greater h = cc

own : (p : PartId) → part_eq p p ≡ true
own p = grind (arith, nat_tests)

tied_neither : (o : Ordering) → is_lt o ≡ false → is_lt (ordering_reverse o) ≡ false → is_eq o ≡ true
tied_neither Less h i = cc
tied_neither Equal h i = refl
tied_neither Greater h i = cc

-- none is of a part before the first one's
none_before : (p : PartId) (y : Seen) (ys : List Seen) → IsByPart (y ∷ ys) → is_lt (part_cmp p y.part) ≡ true → rows_of p (y ∷ ys) ≡ []
none_before p y ys up less =
    filter_none (λ r. part_eq r.part p) (y ∷ ys) (λ k d lt. one (get_or (y ∷ ys) k d) (sorted_far (λ (a b : Seen). is_lt (part_cmp a.part b.part)) (ranks_by part_total (λ (r : Seen). r.part)) (y ∷ ys) up 0 k d (omega arith) lt))
  where
    one : (z : Seen) → is_lt (part_cmp z.part y.part) ≡ false → part_eq z.part p ≡ false
    one z later = two (part_eq z.part p) refl
      where
        two : (b : Bool) → part_eq z.part p ≡ b → b ≡ false
        two true e =
            let same = part_total.congr z.part p y.part (equal_from_is_eq (part_cmp z.part p) (part_tied z.part p ∙ e)) in
            let wrong : false ≡ true = sym later ∙ ap is_lt same ∙ less in
            cc
        two false e = refl

rest_by_part : (y : Seen) (ys : List Seen) → IsByPart (y ∷ ys) → IsByPart ys
rest_by_part y ys up = λ k d low lt.
    let next : suc k + 1 ≡ suc (k + 1) = omega arith in
    subst (λ j. is_lt (part_cmp (get_or (y ∷ ys) j d).part (get_or ys k d).part) ≡ false) next (up (suc k) d (omega arith) (omega arith))

first_kept : (p : PartId) (x : Seen) (xs : List Seen) → part_eq x.part p ≡ true → rows_of p (x ∷ xs) ≡ x ∷ rows_of p xs
first_kept p x xs is = ap (λ b. cond b (x ∷ rows_of p xs) (rows_of p xs)) is

-- the first of two lists by part that show the same
not_later : (x y : Seen) (xs ys : List Seen) → IsByPart (y ∷ ys) → ((p : PartId) → rows_of p (x ∷ xs) ≡ rows_of p (y ∷ ys)) → is_lt (part_cmp x.part y.part) ≡ false
not_later x y xs ys up same = one (is_lt (part_cmp x.part y.part)) refl
  where
    one : (b : Bool) → is_lt (part_cmp x.part y.part) ≡ b → b ≡ false
    one true e =
        let wrong : x ∷ rows_of x.part xs ≡ [] = sym (first_kept x.part x xs (own x.part)) ∙ same x.part ∙ none_before x.part y ys up e in
        cc
    one false e = refl

rest_same : (x : Seen) (xs ys : List Seen) → ((p : PartId) → rows_of p (x ∷ xs) ≡ rows_of p (x ∷ ys)) → (p : PartId) → rows_of p xs ≡ rows_of p ys
rest_same x xs ys same p = one (part_eq x.part p) (same p)
  where
    one : (b : Bool) → cond b (x ∷ rows_of p xs) (rows_of p xs) ≡ cond b (x ∷ rows_of p ys) (rows_of p ys) → rows_of p xs ≡ rows_of p ys
    one true e = ap (drop 1) e
    one false e = e

pub same_by_part : (xs ys : List Seen) → IsByPart xs → IsByPart ys → ((p : PartId) → rows_of p xs ≡ rows_of p ys) → xs ≡ ys
same_by_part [] [] up up' same = refl
same_by_part [] (y ∷ ys) up up' same = let wrong : [] ≡ y ∷ rows_of y.part ys = same y.part ∙ first_kept y.part y ys (own y.part) in cc
same_by_part (x ∷ xs) [] up up' same = let wrong : x ∷ rows_of x.part xs ≡ [] = sym (first_kept x.part x xs (own x.part)) ∙ same x.part in cc
same_by_part (x ∷ xs) (y ∷ ys) up up' same =
    let low = not_later x y xs ys up' same in
    let high = not_later y x ys xs up (λ p. sym (same p)) in
    let tied = tied_neither (part_cmp y.part x.part) high (ap is_lt (sym (part_total.antisymm x.part y.part)) ∙ low) in
    let heads : x ∷ rows_of x.part xs ≡ y ∷ rows_of x.part ys =
    sym (first_kept x.part x xs (own x.part)) ∙ same x.part ∙ first_kept x.part y ys (sym (part_tied y.part x.part) ∙ tied) in
    let first : x ≡ y = ap (λ l. get_or l 0 x) heads in
    let rest = rest_same x xs ys (λ p. same p ∙ ap (λ z. rows_of p (z ∷ ys)) (sym first)) in
    ap (λ z. z ∷ xs) first ∙ ap (λ zs. y ∷ zs) (same_by_part xs ys (rest_by_part x xs up) (rest_by_part y ys up') rest)
