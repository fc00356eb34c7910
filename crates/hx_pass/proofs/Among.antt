-- The rows to post of some parts, part by part.
use Rattle.std.proofs.Common.{◌≡◌, ◌∙◌, ℕ, ◌+◌, ◌<◌, ◌≤◌, ◌&&◌, not, Bool, true, false, List, [], ◌∷◌, ◌++◌, length, drop, take, get_or, nat_lt, append_assoc, refl, sym, ap, arith}
use Rattle.std.specs.Prelude.{map, filter, unwrap_or, Result, Ok, Err, IfOk, if◌then◌else◌}
use Rattle.std.specs.Cmp.{IsStrictWeakOrder}
use Rattle.std.specs.List.{list_any, list_all}
use Rattle.std.specs.List.Sorted.{IsSortedBy}
use Rattle.std.proofs.lemmas.Bool.Decides.{nat_tests}
use Rattle.std.proofs.lemmas.List.{at_drop_more, drop_all, append-nil}
use Rattle.hx_lists.specs.Lists.{sort_by}
use Rattle.hx_ids.specs.declared.PartId.{PartId}
use Rattle.hx_ids.specs.declared.SessionId.{SessionId}
use Rattle.hx_ids.specs.declared.InstanceId.{InstanceId}
use Rattle.hx_cluster.specs.declared.state.Row.{Row}
use Rattle.hx_cluster.specs.declared.planning.View.{View}
use Rattle.hx_cluster.specs.declared.happenings.Seen.{Seen}
use Rattle.hx_cluster.specs.Ends.{part_eq, part_before, instance_in}
use Rattle.hx_parts.specs.Parts.{items_at, IsByPart}
use Rattle.hx_parts.proofs.Ordered.{parts_rank}
use Rattle.hx_parts.proofs.Rising.{rises, rises-sort}
use Rattle.hx_parts.proofs.Sorting.{sort_is}
use Rattle.hx_parts.specs.Marks.{behind, spliced, are_rising}
use Rattle.hx_parts.proofs.InPlace.{done}
use Rattle.hx_pass.specs.Turns.{seen_before, seen_of, posted_of}
use Rattle.hx_pass.proofs.Posting.{make_seen, more_seen}
use Rattle.hx_pass.proofs.Sorted.{sorted_rises, sort-filter}

-- ---- a row more
pub row_more : (view : View) (live : List (SessionId × InstanceId)) → live ≡ view.live → (rows : List Row) (k : ℕ) (d : Row) (i : InstanceId) (old seen more : List Seen) → k < length rows
    → i ≡ unwrap_or (instance_in live (get_or rows k d).session) (record { 0 = 0 }) → seen ≡ old ++ map (seen_of view) (take k rows)
    → more ≡ seen ++ make_seen i (get_or rows k d).part (get_or rows k d).state ∷ [] → more ≡ old ++ map (seen_of view) (take (k + 1) rows)
row_more view live of_view rows k d i old seen more lt known so_far pushed =
    let added : List Seen = make_seen i (get_or rows k d).part (get_or rows k d).state ∷ [] in
    let front : List Seen = map (seen_of view) (take k rows) in
    pushed ∙ ap (λ (ss : List Seen). ss ++ added) so_far ∙ append_assoc old front added
    ∙ ap (λ (ss : List Seen). old ++ ss) (more_seen view live of_view rows k d i front (front ++ added) lt known refl refl)

-- ---- the items of some parts, part by part
module _ {X : Type 0} (part_of : X → PartId) where
  abbrev pub at_parts : List X → List PartId → List X
  at_parts xs [] = []
  at_parts xs (p ∷ parts) = items_at part_of p xs ++ at_parts xs parts

  pub parts_more : (xs : List X) (parts : List PartId) (i : ℕ) (d : PartId) (p : PartId) → i < length parts → p ≡ get_or parts i d → (out more total : List X)
      → out ++ at_parts xs (drop i parts) ≡ total → more ≡ out ++ items_at part_of p xs → more ++ at_parts xs (drop (i + 1) parts) ≡ total
  parts_more xs parts i d p lt is out more total so_far made =
      let rest : List X = at_parts xs (drop (i + 1) parts) in
      ap (λ (ys : List X). ys ++ rest) made ∙ append_assoc out (items_at part_of p xs) rest
      ∙ ap (λ (q : PartId). out ++ (items_at part_of q xs ++ rest)) is
      ∙ sym (ap (λ (ys : List X). out ++ ys) (at_drop_more (at_parts xs) parts i d lt)) ∙ so_far

  pub parts_all : (xs : List X) (parts : List PartId) (i : ℕ) → length parts ≤ i → (out total : List X) → out ++ at_parts xs (drop i parts) ≡ total → out ≡ total
  parts_all xs parts i le out total so_far =
      sym (append-nil out) ∙ ap (λ (ps : List PartId). out ++ at_parts xs ps) (sym (drop_all i parts le)) ∙ so_far

  behind_kept : (p q : PartId) → part_before p q ≡ true → (ys : List X) → items_at part_of q (behind part_of p ys) ≡ items_at part_of q ys
  behind_kept p q later [] = refl
  behind_kept p q later (y ∷ ys) = one (part_eq (part_of y) q) refl (part_before p (part_of y)) refl (behind_kept p q later ys)
    where
      one : (a : Bool) → part_eq (part_of y) q ≡ a → (b : Bool) → part_before p (part_of y) ≡ b → items_at part_of q (behind part_of p ys) ≡ items_at part_of q ys
          → items_at part_of q (behind part_of p (y ∷ ys)) ≡ items_at part_of q (y ∷ ys)
      one true e true f more = grind (arith, e, f, more)
      one true e false f more = grind (arith, nat_tests, e, f, later)
      one false e true f more = grind (arith, e, f, more)
      one false e false f more = grind (arith, e, f, more)

  among : (p q : PartId) (parts : List PartId) → list_all (part_before p) parts ≡ true → list_any (part_eq q) parts ≡ true → part_before p q ≡ true
  among p q [] all any = cc
  among p q (r ∷ parts) all any = one (part_eq q r) refl (among p q parts)
    where
      one : (b : Bool) → part_eq q r ≡ b → (list_all (part_before p) parts ≡ true → list_any (part_eq q) parts ≡ true → part_before p q ≡ true) → part_before p q ≡ true
      one true e more = let next : part_before p r ≡ true = grind (arith, all) in grind (arith, nat_tests, e, next)
      one false e more = more (grind (arith, all)) (grind (arith, e, any))

  own : (p : PartId) → part_eq p p ≡ true
  own p = grind (arith, nat_tests)

  parts_spliced : (parts : List PartId) → are_rising parts ≡ true → (xs ys : List X) → ((q : PartId) → list_any (part_eq q) parts ≡ true → items_at part_of q ys ≡ items_at part_of q xs)
      → at_parts xs parts ≡ spliced part_of parts [] ys
  parts_spliced [] up xs ys same = refl
  parts_spliced (p ∷ parts) up xs ys same =
      let later : list_all (part_before p) parts ≡ true = grind (arith, up) in
      let here : items_at part_of p ys ≡ items_at part_of p xs = same p (grind (arith, own p)) in
      let rest : at_parts xs parts ≡ spliced part_of parts [] (behind part_of p ys) =
      parts_spliced parts (grind (arith, up)) xs (behind part_of p ys) (λ q any. behind_kept p q (among p q parts later any) ys ∙ same q (grind (arith, any))) in
      ap (λ (zs : List X). zs ++ at_parts xs parts) (sym here) ∙ ap (λ (zs : List X). items_at part_of p ys ++ zs) rest

  -- ---- the same in order of part
  above_same : (q : PartId) (x : X) → part_eq (part_of x) q ≡ true → (xs : List X) → list_all (λ y. not (part_before (part_of y) (part_of x))) (items_at part_of q xs) ≡ true
  above_same q x is [] = refl
  above_same q x is (y ∷ xs) = one (part_eq (part_of y) q) refl (above_same q x is xs)
    where
      one : (b : Bool) → part_eq (part_of y) q ≡ b → list_all (λ y. not (part_before (part_of y) (part_of x))) (items_at part_of q xs) ≡ true
          → list_all (λ y. not (part_before (part_of y) (part_of x))) (items_at part_of q (y ∷ xs)) ≡ true
      one true e more =
          let low : part_before (part_of y) (part_of x) ≡ false = grind (arith, nat_tests, is, e) in
          grind (arith, e, low, more)
      one false e more = grind (arith, e, more)

  rises_same : (q : PartId) (xs : List X) → rises (λ a b. part_before (part_of a) (part_of b)) (items_at part_of q xs) ≡ true
  rises_same q [] = refl
  rises_same q (x ∷ xs) = one (part_eq (part_of x) q) refl (rises_same q xs)
    where
      one : (b : Bool) → part_eq (part_of x) q ≡ b → rises (λ a b. part_before (part_of a) (part_of b)) (items_at part_of q xs) ≡ true
          → rises (λ a b. part_before (part_of a) (part_of b)) (items_at part_of q (x ∷ xs)) ≡ true
      one true e more = grind (arith, e, above_same q x e xs, more)
      one false e more = grind (arith, e, more)

  by_part : List X → List X
  by_part xs = sort_by (λ a b. part_before (part_of a) (part_of b)) xs

  by_part_at : (xs : List X) (q : PartId) → items_at part_of q (by_part xs) ≡ items_at part_of q xs
  unfolding by_part
  by_part_at xs q =
      let before : X → X → Bool = λ a b. part_before (part_of a) (part_of b) in
      let own : List X = items_at part_of q xs in
      sort-filter before (parts_rank part_of) (λ x. part_eq (part_of x) q) xs
      ∙ sym (sort_is before (parts_rank part_of) own own (sorted_rises before own (rises_same q xs)) (λ z. refl))

  by_part_sorted : (xs : List X) → IsByPart part_of (by_part xs)
  unfolding by_part
  by_part_sorted xs =
      let before : X → X → Bool = λ a b. part_before (part_of a) (part_of b) in
      sorted_rises before (sort_by before xs) (rises-sort before (parts_rank part_of) xs)

  none_sorted : IsByPart part_of []
  none_sorted k d ge long = absurd (omega (arith, long))

  pub parts_gone_over : (parts : List PartId) → are_rising parts ≡ true → (xs out : List X) → out ≡ at_parts xs parts
      → IsByPart part_of out × ((p : PartId) → list_any (part_eq p) parts ≡ true → items_at part_of p out ≡ items_at part_of p xs)
  parts_gone_over parts rising xs out is =
      let all = done part_of parts [] (by_part xs) none_sorted (by_part_sorted xs) rising out (is ∙ parts_spliced parts rising xs (by_part xs) (λ q any. by_part_at xs q)) in (
        all.by_part,
        λ p any. all.at p ∙ ap (λ (b : Bool). if b then items_at part_of p (by_part xs) else []) any ∙ by_part_at xs p,
      )

-- what holds of what is made holds by what is known of it
pub if_made : {A E : Type 0} (P Q : A → Type 0) → ((a : A) → P a → Q a) → (r : Result A E) → IfOk r P → IfOk r Q
if_made P Q more (Ok a) is = more a is
if_made P Q more (Err e) is = is

-- ---- the rows to post
seen_order : IsStrictWeakOrder seen_before
seen_order = record {
  one_way = λ x y e. grind (arith, nat_tests, e);
  chain = λ x y z e h. grind (arith, nat_tests, e, h);
}

not_before : (a b : Seen) → part_before a.part b.part ≡ false → (part_eq a.part b.part && nat_lt a.instance.0 b.instance.0) ≡ false → seen_before a b ≡ false
not_before a b e f = grind (arith, e, f)

pub rows_posted : (v : View) (parts : List PartId) → are_rising parts ≡ true → (rows : List Seen) → rows ≡ at_parts (λ s. s.part) (map (seen_of v) v.rows) parts
    → IsSortedBy (λ a b. part_eq a.part b.part && nat_lt a.instance.0 b.instance.0) rows
    → IsByPart (λ s. s.part) rows × ((p : PartId) → list_any (part_eq p) parts ≡ true → items_at (λ s. s.part) p rows ≡ items_at (λ s. s.part) p (posted_of v))
rows_posted v parts rising rows is rise =
    let all = parts_gone_over (λ s. s.part) parts rising (map (seen_of v) v.rows) rows is in
    let up : IsSortedBy seen_before rows = λ k d ge long. not_before (get_or rows (k + 1) d) (get_or rows k d) (all.0 k d ge long) (rise k d ge long) in
    let same : rows ≡ sort_by seen_before rows = sort_is seen_before seen_order rows rows up (λ z. refl) in (
      all.0,
      λ p any.
          let at : Seen → Bool = λ s. part_eq s.part p in
          ap (filter at) same ∙ sort-filter seen_before seen_order at rows ∙ ap (sort_by seen_before) (all.1 p any) ∙ sym (sort-filter seen_before seen_order at (map (seen_of v) v.rows)),
    )
