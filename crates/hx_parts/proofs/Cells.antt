-- Cells of parts, and the parts that are marked.
use Rattle.std.proofs.Common.{◌≡◌, ℕ, zero, suc, ◌+◌, ◌-◌, ◌<◌, ◌≤◌, ◌==◌, ◌||◌, Bool, true, false, List, [], ◌∷◌, ◌++◌, refl, sym, ◌∙◌, ap, get_or, length, drop, arith}
use Rattle.std.specs.Prelude.{Option, None, Some, slice_get, slice_set, unwrap_or}
use Rattle.std.specs.List.{list_any, list_all}
use Rattle.std.proofs.lemmas.Option.{unwrap_or-slice_get}
use Rattle.std.proofs.lemmas.List.{append-nil, append_assoc}
use Rattle.std.proofs.lemmas.Bool.Decides.{nat_tests}
use Rattle.hx_ids.specs.declared.PartId.{PartId}
use Rattle.hx_ids.specs.declared.ResourceId.{ResourceId}
use Rattle.hx_cluster.specs.Ends.{part_eq, part_before}
use Rattle.hx_parts.specs.Marks.{is_marked, marked_in, marked_from, are_rising}

-- where no item is found, the default stands
pub none_found : {X : Type 0} (xs : List X) (n : ℕ) (d : X) → slice_get xs n ≡ None → d ≡ get_or xs n d
none_found {X} xs n d none = ap (λ (o : Option X). unwrap_or o d) (sym none) ∙ unwrap_or-slice_get xs n d

any_append : {X : Type 0} (q : X → Bool) (xs ys : List X) → list_any q (xs ++ ys) ≡ (list_any q xs || list_any q ys)
any_append q [] ys = refl
any_append q (x ∷ xs) ys = grind (arith, any_append q xs ys)

-- ---- one resource's
-- a part of another resource isn't among them, nor one below the first
elsewhere : (p : PartId) (r : ResourceId) (k : ℕ) (cells : List Bool) → (p.resource.0 == r.0) ≡ false → list_any (part_eq p) (marked_in r k cells) ≡ false
elsewhere p r k [] other = refl
elsewhere p r k (true ∷ cells) other = grind (arith, nat_tests, other, elsewhere p r (k + 1) cells other)
elsewhere p r k (false ∷ cells) other = elsewhere p r (k + 1) cells other

below : (p : PartId) (r : ResourceId) (k : ℕ) (cells : List Bool) → p.index < k → list_any (part_eq p) (marked_in r k cells) ≡ false
below p r k [] less = refl
below p r k (true ∷ cells) less = grind (arith, nat_tests, less, below p r (k + 1) cells (omega (arith, less)))
below p r k (false ∷ cells) less = below p r (k + 1) cells (omega (arith, less))

at_index : (p : PartId) (r : ResourceId) (k j : ℕ) (cells : List Bool) → (p.resource.0 == r.0) ≡ true → p.index ≡ k + j → list_any (part_eq p) (marked_in r k cells) ≡ get_or cells j false
at_index p r k j [] own is = refl
at_index p r k zero (true ∷ cells) own is = grind (arith, nat_tests, own, is)
at_index p r k zero (false ∷ cells) own is = below p r (k + 1) cells (omega (arith, is))
at_index p r k (suc j) (true ∷ cells) own is = grind (arith, nat_tests, own, is, at_index p r (k + 1) j cells own (omega (arith, is)))
at_index p r k (suc j) (false ∷ cells) own is = at_index p r (k + 1) j cells own (omega (arith, is))

-- ---- all resources'
earlier : (p : PartId) (n : ℕ) (all : List (List Bool)) → p.resource.0 < n → list_any (part_eq p) (marked_from n all) ≡ false
earlier p n [] less = refl
earlier p n (cells ∷ all) less =
    any_append (part_eq p) (marked_in (record { 0 = n }) 0 cells) (marked_from (n + 1) all)
    ∙ grind (arith, nat_tests, elsewhere p (record { 0 = n }) 0 cells (grind (arith, nat_tests, less)), earlier p (n + 1) all (omega (arith, less)))

at_resource : (p : PartId) (n j : ℕ) (all : List (List Bool)) → p.resource.0 ≡ n + j → list_any (part_eq p) (marked_from n all) ≡ get_or (get_or all j []) p.index false
at_resource p n j [] is = refl
at_resource p n zero (cells ∷ all) is =
    any_append (part_eq p) (marked_in (record { 0 = n }) 0 cells) (marked_from (n + 1) all)
    ∙ grind (arith, at_index p (record { 0 = n }) 0 p.index cells (grind (arith, nat_tests, is)) (omega arith), earlier p (n + 1) all (omega (arith, is)))
at_resource p n (suc j) (cells ∷ all) is =
    any_append (part_eq p) (marked_in (record { 0 = n }) 0 cells) (marked_from (n + 1) all)
    ∙ grind (arith, elsewhere p (record { 0 = n }) 0 cells (grind (arith, nat_tests, is)), at_resource p (n + 1) j all (omega (arith, is)))

pub all_marked : (p : PartId) (cells : List (List Bool)) → list_any (part_eq p) (marked_from 0 cells) ≡ is_marked cells p
all_marked p cells = at_resource p 0 p.resource.0 cells (omega arith)

-- ---- their order
before_row : (p : PartId) (r : ResourceId) (k : ℕ) (cells : List Bool) (later : List PartId) → p.resource.0 ≡ r.0 → p.index < k → list_all (part_before p) later ≡ true
    → list_all (part_before p) (marked_in r k cells ++ later) ≡ true
before_row p r k [] later own less rest = rest
before_row p r k (true ∷ cells) later own less rest = grind (arith, nat_tests, own, less, before_row p r (k + 1) cells later own (omega (arith, less)) rest)
before_row p r k (false ∷ cells) later own less rest = before_row p r (k + 1) cells later own (omega (arith, less)) rest

before_other_row : (p : PartId) (r : ResourceId) (k : ℕ) (cells : List Bool) (later : List PartId) → p.resource.0 < r.0 → list_all (part_before p) later ≡ true
    → list_all (part_before p) (marked_in r k cells ++ later) ≡ true
before_other_row p r k [] later less rest = rest
before_other_row p r k (true ∷ cells) later less rest = grind (arith, nat_tests, less, before_other_row p r (k + 1) cells later less rest)
before_other_row p r k (false ∷ cells) later less rest = before_other_row p r (k + 1) cells later less rest

before_rows : (p : PartId) (n : ℕ) (all : List (List Bool)) → p.resource.0 < n → list_all (part_before p) (marked_from n all) ≡ true
before_rows p n [] less = refl
before_rows p n (cells ∷ all) less = before_other_row p (record { 0 = n }) 0 cells (marked_from (n + 1) all) less (before_rows p (n + 1) all (omega (arith, less)))

row_rises : (r : ResourceId) (k : ℕ) (cells : List Bool) (later : List PartId) → are_rising later ≡ true → ((p : PartId) → p.resource.0 ≡ r.0 → list_all (part_before p) later ≡ true)
    → are_rising (marked_in r k cells ++ later) ≡ true
row_rises r k [] later up behind = up
row_rises r k (true ∷ cells) later up behind =
    let p : PartId = record { resource = r; index = k } in
    grind (arith, before_row p r (k + 1) cells later refl (omega arith) (behind p refl), row_rises r (k + 1) cells later up behind)
row_rises r k (false ∷ cells) later up behind = row_rises r (k + 1) cells later up behind

rows_rise : (n : ℕ) (all : List (List Bool)) → are_rising (marked_from n all) ≡ true
rows_rise n [] = refl
rows_rise n (cells ∷ all) =
    row_rises (record { 0 = n }) 0 cells (marked_from (n + 1) all) (rows_rise (n + 1) all) (λ p own. before_rows p (n + 1) all (omega (arith, own)))

pub all_rise : (cells : List (List Bool)) → are_rising (marked_from 0 cells) ≡ true
all_rise cells = rows_rise 0 cells

-- ---- the loop over resources
drop_first : {X : Type 0} (all : List X) (n : ℕ) (d : X) → n < length all → drop n all ≡ get_or all n d ∷ drop (suc n) all
drop_first [] n d lt = grind (arith, lt)
drop_first (x ∷ all) zero d lt = refl
drop_first (x ∷ all) (suc n) d lt = drop_first all n d (omega (arith, lt))

drop_all : {X : Type 0} (all : List X) (n : ℕ) → length all ≤ n → drop n all ≡ []
drop_all [] zero le = refl
drop_all [] (suc n) le = refl
drop_all (x ∷ all) zero le = grind (arith, le)
drop_all (x ∷ all) (suc n) le = drop_all all n (omega (arith, le))

pub parts_more : (all : List (List Bool)) (n r : ℕ) (d : List Bool) → n < length all → r ≡ n → (old new total : List PartId)
    → old ++ marked_from n (drop n all) ≡ total → new ≡ old ++ marked_in (record { 0 = r }) 0 (get_or all n d) → new ++ marked_from (n + 1) (drop (n + 1) all) ≡ total
parts_more all n r d lt is old new total so more =
    let next : suc n ≡ n + 1 = omega arith in
    rw (more, is)
    (append_assoc old (marked_in (record { 0 = n }) 0 (get_or all n d)) (marked_from (n + 1) (drop (n + 1) all))
    ∙ ap (λ (j : ℕ). old ++ (marked_in (record { 0 = n }) 0 (get_or all n d) ++ marked_from (n + 1) (drop j all))) (sym next)
    ∙ sym (ap (λ (rest : List (List Bool)). old ++ marked_from n rest) (drop_first all n d lt)) ∙ so)

pub parts_done : (all : List (List Bool)) (n : ℕ) → length all ≤ n → (parts total : List PartId) → parts ++ marked_from n (drop n all) ≡ total → parts ≡ total
parts_done all n le parts total so = sym (append-nil parts) ∙ sym (ap (λ (rest : List (List Bool)). parts ++ marked_from n rest) (drop_all all n le)) ∙ so

-- ---- the loop over the cells of a resource
-- a cell that isn't marked adds no part
free_at : (r : ResourceId) (k n : ℕ) (cells : List Bool) → get_or cells n false ≡ false → marked_in r (k + 1) (drop (suc n) cells) ≡ marked_in r k (drop n cells)
free_at r k zero [] free = refl
free_at r k (suc n) [] free = refl
free_at r k zero (true ∷ cells) free = grind (arith, free)
free_at r k zero (false ∷ cells) free = refl
free_at r k (suc n) (cell ∷ cells) free = free_at r k n cells free

free_run : (r : ResourceId) (n j : ℕ) (cells : List Bool) → ((k : ℕ) → n ≤ k → k < n + j → get_or cells k false ≡ false)
    → marked_in r (n + j) (drop (n + j) cells) ≡ marked_in r n (drop n cells)
free_run r n zero cells free = ap (λ (m : ℕ). marked_in r m (drop m cells)) (omega arith)
free_run r n (suc j) cells free =
    let step : n + suc j ≡ n + j + 1 = omega arith in
    let next : n + j + 1 ≡ suc (n + j) = omega arith in
    ap (λ (m : ℕ). marked_in r m (drop m cells)) step ∙ ap (λ (m : ℕ). marked_in r (n + j + 1) (drop m cells)) next
    ∙ free_at r (n + j) (n + j) cells (free (n + j) (omega arith) (omega arith))
    ∙ free_run r n j cells (λ k le lt. free k le (omega (arith, lt)))

pub free_parts : (r : ResourceId) (n m : ℕ) (cells : List Bool) → n ≤ m → ((k : ℕ) → n ≤ k → k < m → get_or cells k false ≡ false)
    → marked_in r m (drop m cells) ≡ marked_in r n (drop n cells)
free_parts r n m cells le free =
    let far : m ≡ n + (m - n) = omega (arith, le) in
    ap (λ (i : ℕ). marked_in r i (drop i cells)) far ∙ free_run r n (m - n) cells (λ k above lt. free k above (omega (arith, le, lt)))

-- the part of a marked cell stands before those of the marked cells behind it
pub marked_more : (r : ResourceId) (n i m : ℕ) (cells : List Bool) → n < length cells → i ≡ n → get_or cells n false ≡ true → n + 1 ≤ m → ((k : ℕ) → n + 1 ≤ k → k < m → get_or cells k false ≡ false)
    → (old new total : List PartId) → old ++ marked_in r n (drop n cells) ≡ total → new ≡ old ++ record { resource = r; index = i } ∷ [] → new ++ marked_in r m (drop m cells) ≡ total
marked_more r n i m cells lt is marked le free old new total so more =
    let next : n + 1 ≡ suc n = omega arith in
    let here : drop n cells ≡ true ∷ drop (n + 1) cells =
    drop_first cells n false lt ∙ ap (λ (c : Bool). c ∷ drop (suc n) cells) marked ∙ ap (λ (j : ℕ). true ∷ drop j cells) (sym next) in
    rw (more, is)
    (append_assoc old (record { resource = r; index = n } ∷ []) (marked_in r m (drop m cells))
    ∙ ap (λ (ps : List PartId). old ++ record { resource = r; index = n } ∷ ps) (free_parts r (n + 1) m cells le free)
    ∙ sym (ap (λ (cs : List Bool). old ++ marked_in r n cs) here) ∙ so)

pub marked_done : (r : ResourceId) (n : ℕ) (cells : List Bool) → length cells ≤ n → (parts total : List PartId) → parts ++ marked_in r n (drop n cells) ≡ total → parts ≡ total
marked_done r n cells le parts total so = sym (append-nil parts) ∙ sym (ap (λ (cs : List Bool). parts ++ marked_in r n cs) (drop_all cells n le)) ∙ so

-- ---- a cell that is set
-- an item that is read and put back
pub put_back : {X : Type 0} (xs : List X) (n : ℕ) (x : X) → slice_get xs n ≡ Some x → slice_set xs n x ≡ xs
put_back [] n x is = refl
put_back (y ∷ ys) zero x is = ap (λ z. z ∷ ys) (grind (arith, is))
put_back (y ∷ ys) (suc n) x is = ap (λ zs. y ∷ zs) (put_back ys n x is)
