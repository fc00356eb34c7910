-- The rows of a session's slots, as one of them is put at a state.
use Rattle.std.proofs.Common.{Less, ◌≡◌, ℕ, zero, suc, ◌<◌, ◌≤◌, ◌+◌, Bool, true, false, cond, not, List, [], ◌∷◌, length, Some, None, Option, refl, sym, ap, ◌∙◌, subst, arith, get_or}
use Rattle.std.specs.Prelude.{◌==◌, ◌&&◌, ◌||◌, nat_lt, is_some, if◌then◌else◌}
use Rattle.std.specs.List.{list_any, cons_option, AllByRecursion}
use Rattle.std.specs.List.Sorted.{IsStrictlySortedBy, IsPartitionedBy, IsPartitionPoint}
use Rattle.std.specs.Ordering.{nat_cmp}
use Rattle.std.specs.Map.{keys_of}
use Rattle.std.proofs.Math.Numerals.{one-add}
use Rattle.std.proofs.lemmas.Bool.Decides.{nat_tests}
use Rattle.std.proofs.lemmas.List.Sums.{position_or_len_is}
use Rattle.std.proofs.lemmas.Map.Keys.{sorted_tail, sorted_head, IsDistinct-from_sorted}
use Rattle.hx_ids.specs.declared.SessionId.{SessionId}
use Rattle.hx_ids.specs.declared.StateId.{StateId}
use Rattle.hx_ids.specs.declared.PartId.{PartId}
use Rattle.hx_model.specs.Model.{dropped}
use Rattle.hx_cluster.specs.declared.state.Row.{Row}
use Rattle.hx_cluster.specs.Ends.{is_row, part_eq, part_before}
use Rattle.hx_store.specs.declared.Record.{Record}
use Rattle.hx_store.specs.Records.{record_at, set_to, changed}
use Rattle.hx_store.proofs.Entries.{absent-past_head, map-absent}
use Rattle.hx_slots.specs.declared.slot.Slot.{Slot}
use Rattle.hx_slots.specs.Slots.{IsPlaced, IsSlot, slot_key, row_with, row_of, rows_of}
use Rattle.hx_slots.specs.Index.{Ready, CanPut, place_of, row_placed}
use Rattle.hx_slots.proofs.Keys.{key_before}
use Rattle.hx_slots.proofs.Entries.{all-weaker, some_is}
use Rattle.hx_slots.proofs.RowsOf.{EachSlot, state_in, has_row, above_first}

-- what holds of each slot of a session
abbrev pub IsOwn : ℕ → SessionId → ℕ × Record Slot → Type 0
IsOwn changes s e = IsSlot changes e × ((e.1.value.session.0 == s.0) ≡ true)

pub own-slots : (changes : ℕ) (s : SessionId) (es : List (ℕ × Record Slot)) → AllByRecursion (IsOwn changes s) es → EachSlot changes es
own-slots changes s es all = all-weaker (IsOwn changes s) (IsSlot changes) (λ e own. own.0) es all

-- lists of which those that pass a test stand in front
all-in : {X : Type 0} (P : X → Type 0) (xs : List X) (k : ℕ) (d : X) → AllByRecursion P xs → k < length xs → P (get_or xs k d)
all-in P [] k d all less = absurd (omega (arith, less))
all-in P (x ∷ xs) zero d all less = all.0
all-in P (x ∷ xs) (suc k) d all less = all-in P xs k d all.1 (omega (arith, less))

none_in_front : {X : Type 0} (f : X → Bool) (xs : List X) → AllByRecursion (λ x. f x ≡ false) xs → IsPartitionedBy f xs
none_in_front f xs all = λ i j d up less is. let no : true ≡ false = sym is ∙ all-in (λ x. f x ≡ false) xs j d all less in cc

one_in_front : {X : Type 0} (f : X → Bool) (x : X) (xs : List X) → f x ≡ true → IsPartitionedBy f xs → IsPartitionedBy f (x ∷ xs)
one_in_front {X = X} f x xs first rest = go
  where
    go : (i j : ℕ) (d : X) → i ≤ j → j < length (x ∷ xs) → f (get_or (x ∷ xs) j d) ≡ true → f (get_or (x ∷ xs) i d) ≡ true
    go zero j d up less is = first
    go (suc i) zero d up less is = absurd (omega (arith, up))
    go (suc i) (suc j) d up less is = rest i j d (omega (arith, up)) (omega (arith, less)) is

-- the place that halving finds
pub place_is : (p : PartId) (rows : List Row) (n : ℕ) → n ≤ length rows → IsPartitionPoint (λ r. part_before r.part p ≡ true) (λ r. part_before r.part p ≡ false) rows n → n ≡ place_of p rows
place_is p rows n fits point =
    let d : Row = record { session = record { 0 = 0 }; part = p; state = dropped } in
    sym (position_or_len_is (λ r. not (part_before r.part p)) rows n d fits (λ k less. ap not (point.0 k d (omega arith) less)) (λ less. ap not (point.1 n d (omega arith) less)))

at_once : (p : PartId) (rows : List Row) → AllByRecursion (λ r. part_before r.part p ≡ false) rows → place_of p rows ≡ 0
at_once p [] all = refl
at_once p (r ∷ rows) all = rw all.0 refl

-- keys of one session stand as the parts do
lower : (a b : ℕ) (c : Bool) → (a == b) ≡ true → (nat_lt a b || ((a == b) && c)) ≡ c
lower a b true same = grind (arith, nat_tests)
lower a b false same = grind (arith, nat_tests)

key-part : (changes : ℕ) (e : ℕ × Record Slot) (s : SessionId) (p : PartId) → IsOwn changes s e → IsPlaced s p → nat_lt e.0 (slot_key s p) ≡ part_before e.1.value.part p
key-part changes e s p is placed = rw is.0.key (key_before e.1.value.session s e.1.value.part p is.0.placed placed ∙ lower e.1.value.session.0 s.0 (part_before e.1.value.part p) is.1)

-- behind a slot that doesn't stand before a part no row does
none-before : (changes : ℕ) (s : SessionId) (p : PartId) (es : List (ℕ × Record Slot)) → AllByRecursion (IsOwn changes s) es → IsPlaced s p → AllByRecursion (λ k. nat_lt k (slot_key s p) ≡ false) (keys_of es)
    → AllByRecursion (λ r. part_before r.part p ≡ false) (rows_of es)
none-before changes s p [] all placed past = tt
none-before changes s p (e ∷ es) all placed past = one e.1.value.state (none-before changes s p es all.1 placed past.1)
  where
    one : (o : Option StateId) → AllByRecursion (λ r. part_before r.part p ≡ false) (rows_of es) → AllByRecursion (λ r. part_before r.part p ≡ false) (cons_option (row_with e.1.value o) (rows_of es))
    one None rest = rest
    one (Some t) rest = (sym (key-part changes e s p all.0 placed) ∙ past.0, rest)

past-head : (changes : ℕ) (s : SessionId) (p : PartId) (e : ℕ × Record Slot) (es : List (ℕ × Record Slot)) → IsStrictlySortedBy nat_cmp (keys_of (e ∷ es)) → AllByRecursion (IsOwn changes s) es → IsPlaced s p → nat_lt e.0 (slot_key s p) ≡ false
    → AllByRecursion (λ r. part_before r.part p ≡ false) (rows_of es)
past-head changes s p e es ordered all placed i = none-before changes s p es all placed (all-weaker (λ k. nat_cmp e.0 k ≡ Less) (λ k. nat_lt k (slot_key s p) ≡ false) past (keys_of es) (sorted_head _ _ _ ordered))
  where
    past : (k : ℕ) → nat_cmp e.0 k ≡ Less → nat_lt k (slot_key s p) ≡ false
    past k less = grind (arith, nat_tests)

-- the rows of the parts before stand in front
pub rows-parted : (changes : ℕ) (s : SessionId) (p : PartId) (es : List (ℕ × Record Slot)) → IsStrictlySortedBy nat_cmp (keys_of es) → AllByRecursion (IsOwn changes s) es → IsPlaced s p → IsPartitionedBy (λ r. part_before r.part p) (rows_of es)
rows-parted changes s p [] ordered all placed = none_in_front (λ r. part_before r.part p) [] tt
rows-parted changes s p (e ∷ es) ordered all placed = one (nat_lt e.0 (slot_key s p)) refl e.1.value.state (rows-parted changes s p es (sorted_tail _ _ _ ordered) all.1 placed)
  where
    Is : List Row → Type 0
    Is rows = IsPartitionedBy (λ r. part_before r.part p) rows

    one : (b : Bool) → nat_lt e.0 (slot_key s p) ≡ b → (o : Option StateId) → Is (rows_of es) → Is (cons_option (row_with e.1.value o) (rows_of es))
    one b i None rest = rest
    one true i (Some t) rest = one_in_front (λ r. part_before r.part p) (record { session = e.1.value.session; part = e.1.value.part; state = t }) (rows_of es) (sym (key-part changes e s p all.0 placed) ∙ i) rest
    one false i (Some t) rest =
        none_in_front (λ r. part_before r.part p) (record { session = e.1.value.session; part = e.1.value.part; state = t } ∷ rows_of es)
        (sym (key-part changes e s p all.0 placed) ∙ i, past-head changes s p e es ordered all.1 placed i)

-- the place of a row that is there is among the rows
apart_by : (r i q j : ℕ) → (nat_lt r q || ((r == q) && nat_lt i j)) ≡ true → ((r == q) && (i == j)) ≡ false
apart_by r i q j a = grind (arith, nat_tests)

within : (s : SessionId) (p : PartId) (rows : List Row) → list_any (is_row s p) rows ≡ true → place_of p rows < length rows
within s p [] h = cc
within s p (r ∷ rows) h = one (part_before r.part p) refl (within s p rows)
  where
    other : part_before r.part p ≡ true → is_row s p r ≡ false
    other i = nothing (r.session.0 == s.0) (part_eq r.part p) (apart_by r.part.resource.0 r.part.index p.resource.0 p.index i)
      where
        nothing : (a b : Bool) → b ≡ false → (a && b) ≡ false
        nothing true b k = k
        nothing false b k = refl

    one : (b : Bool) → part_before r.part p ≡ b → (list_any (is_row s p) rows ≡ true → place_of p rows < length rows) → cond (not (not (part_before r.part p))) (1 + place_of p rows) 0 < length (r ∷ rows)
    one true i rest =
        let found : list_any (is_row s p) rows ≡ true = subst (λ (b : Bool). (b || list_any (is_row s p) rows) ≡ true) (other i) h in
        rw i (omega (arith, rest found))
    one false i rest = rw i (omega arith)

pub row-there : (changes : ℕ) (s : SessionId) (p : PartId) (r : Record Slot) (es : List (ℕ × Record Slot)) → IsStrictlySortedBy nat_cmp (keys_of es) → AllByRecursion (IsOwn changes s) es → IsPlaced s p → record_at es (slot_key s p) ≡ Some r
    → is_some r.value.state ≡ true → place_of p (rows_of es) < length (rows_of es)
row-there changes s p r es ordered all placed there had =
    within s p (rows_of es) (has_row changes s p es ordered (own-slots changes s es all) placed ∙ ap (λ (o : Option (Record Slot)). is_some (state_in o)) there ∙ had)

-- there are at most as many rows as slots, and fewer where a slot has none
rows-most : (es : List (ℕ × Record Slot)) → length (rows_of es) ≤ length es
rows-most [] = omega arith
rows-most (e ∷ es) = one (row_of e.1.value) (rows-most es)
  where
    one : (o : Option Row) → length (rows_of es) ≤ length es → length (cons_option o (rows_of es)) ≤ length (e ∷ es)
    one None most = omega (arith, most)
    one (Some r) most = omega (arith, most)

pub rows-fewer : (k : ℕ) (r : Record Slot) (es : List (ℕ × Record Slot)) → record_at es k ≡ Some r → is_some r.value.state ≡ false → length (rows_of es) < length es
rows-fewer k r [] there bare = cc
rows-fewer k r (e ∷ es) there bare = one (k == e.0) there e.1.value.state refl (rows-fewer k r es)
  where
    one : (b : Bool) → cond b (Some e.1) (record_at es k) ≡ Some r → (o : Option StateId) → e.1.value.state ≡ o → (record_at es k ≡ Some r → is_some r.value.state ≡ false → length (rows_of es) < length es)
        → length (cons_option (row_with e.1.value e.1.value.state) (rows_of es)) < length (e ∷ es)
    one true h None st rest = rw st (omega (arith, rows-most es))
    one true h (Some t) st rest = let no : true ≡ false = ap is_some (sym st) ∙ ap (λ (x : Record Slot). is_some x.value.state) (some_is e.1 r h) ∙ bare in cc
    one false h None st rest = rw st (omega (arith, rest h bare))
    one false h (Some t) st rest = rw st (omega (arith, rest h bare))

-- a slot is put at a state
behind_row : (had : Bool) (o : Option Row) (x : Row) (rows : List Row) (n : ℕ) → row_placed had o (x ∷ rows) (suc n) ≡ x ∷ row_placed had o rows n
behind_row true None x rows n = refl
behind_row false None x rows n = refl
behind_row true (Some r) x rows n = refl
behind_row false (Some r) x rows n = refl

pub rows-placed : (changes : ℕ) (s : SessionId) (p : PartId) (v : Slot) (r : Record Slot) (es : List (ℕ × Record Slot)) → IsStrictlySortedBy nat_cmp (keys_of es) → AllByRecursion (IsOwn changes s) es → IsPlaced s p → record_at es (slot_key s p) ≡ Some r
    → rows_of (set_to es (slot_key s p) v) ≡ row_placed (is_some r.value.state) (row_of v) (rows_of es) (place_of p (rows_of es))
rows-placed changes s p v r [] ordered all placed there = cc
rows-placed changes s p v r (e ∷ es) ordered all placed there = one (slot_key s p == e.0) refl there (rows-placed changes s p v r es (sorted_tail _ _ _ ordered) all.1 placed)
  where
    had : Bool
    had = is_some r.value.state

    -- in its place
    at_head : (o : Option StateId) (row : Option Row) → cons_option row (rows_of es) ≡ row_placed (is_some o) row (cons_option (row_with e.1.value o) (rows_of es)) 0
    at_head None None = refl
    at_head None (Some x) = refl
    at_head (Some t) None = refl
    at_head (Some t) (Some x) = refl

    first : (o : Option StateId) → part_before e.1.value.part p ≡ false → AllByRecursion (λ x. part_before x.part p ≡ false) (rows_of es) → place_of p (cons_option (row_with e.1.value o) (rows_of es)) ≡ 0
    first None i past = at_once p (rows_of es) past
    first (Some t) i past = rw i refl

    here : (slot_key s p == e.0) ≡ true → e.1 ≡ r → cons_option (row_of v) (rows_of es) ≡ row_placed had (row_of v) (rows_of (e ∷ es)) (place_of p (rows_of (e ∷ es)))
    here i same =
        let not_before : nat_lt e.0 (slot_key s p) ≡ false = grind (arith, nat_tests, i) in
        at_head e.1.value.state (row_of v) ∙ ap (λ (x : Record Slot). row_placed (is_some x.value.state) (row_of v) (rows_of (e ∷ es)) 0) same
        ∙ ap (row_placed had (row_of v) (rows_of (e ∷ es))) (sym (first e.1.value.state (sym (key-part changes e s p all.0 placed) ∙ not_before) (past-head changes s p e es ordered all.1 placed not_before)))

    -- and behind
    behind : (o : Option StateId) → part_before e.1.value.part p ≡ true → rows_of (set_to es (slot_key s p) v) ≡ row_placed had (row_of v) (rows_of es) (place_of p (rows_of es))
        → cons_option (row_with e.1.value o) (rows_of (set_to es (slot_key s p) v)) ≡ row_placed had (row_of v) (cons_option (row_with e.1.value o) (rows_of es)) (place_of p (cons_option (row_with e.1.value o) (rows_of es)))
    behind None i rest = rest
    behind (Some t) i rest =
        let x : Row = record { session = e.1.value.session; part = e.1.value.part; state = t } in
        ap (λ (rows : List Row). x ∷ rows) rest ∙ sym (behind_row had (row_of v) x (rows_of es) (place_of p (rows_of es))) ∙ rw (i, one-add (place_of p (rows_of es))) refl

    one : (b : Bool) → (slot_key s p == e.0) ≡ b → cond b (Some e.1) (record_at es (slot_key s p)) ≡ Some r
        → (record_at es (slot_key s p) ≡ Some r → rows_of (set_to es (slot_key s p) v) ≡ row_placed had (row_of v) (rows_of es) (place_of p (rows_of es)))
        → rows_of ((if b then (e.0, changed e.1 v) else e) ∷ set_to es (slot_key s p) v) ≡ row_placed had (row_of v) (rows_of (e ∷ es)) (place_of p (rows_of (e ∷ es)))
    one true i h rest =
        ap (λ (xs : List (ℕ × Record Slot)). cons_option (row_of v) (rows_of xs)) (map-absent (slot_key s p) (λ x. (x.0, changed x.1 v)) es (absent-past_head (slot_key s p) e es (IsDistinct-from_sorted _ _ ordered) i))
        ∙ here i (some_is e.1 r h)
    one false i h rest = behind e.1.value.state (sym (key-part changes e s p all.0 placed) ∙ above_first (slot_key s p) r e es ordered i h) (rest h)

-- what a write asks of rows, of those that are looked at
pub looked_at : (p : PartId) (had : Bool) (slots : ℕ) (rows seen : List Row) (now : Ready) → record { slots = slots; rows = rows } ≡ now → seen ≡ rows → CanPut p had now → CanPut p had (record { slots = slots; rows = seen })
looked_at p had slots rows seen now view are can =
    subst (λ (xs : List Row). CanPut p had (record { slots = slots; rows = xs })) (sym are) (subst (CanPut p had) (sym view) can)
