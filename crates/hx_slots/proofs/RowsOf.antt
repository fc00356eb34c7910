-- The rows of slots, as the slots change.
use Rattle.std.proofs.Common.{Less, ◌≡◌, ℕ, ◌<◌, ◌≤◌, ◌+◌, ◌⊎◌, inl, inr, Bool, true, false, cond, not, List, [], ◌∷◌, map, filter, Some, None, Option, refl, sym, ap, ◌∙◌, subst, arith}
use Rattle.std.specs.Prelude.{◌==◌, ◌&&◌, nat_lt, nat_le, if◌then◌else◌, IfSome, is_some, option_map}
use Rattle.std.specs.List.{list_any, filter_map, cons_option, AllByRecursion}
use Rattle.std.specs.List.Sorted.{IsStrictlySortedBy}
use Rattle.std.specs.Ordering.{nat_cmp}
use Rattle.std.specs.Cmp.{nat_cmp_total}
use Rattle.std.specs.Map.{keys_of}
use Rattle.std.proofs.lemmas.Bool.{eqb-true}
use Rattle.std.proofs.lemmas.Bool.Decides.{nat_tests}
use Rattle.std.proofs.lemmas.Map.Keys.{sorted_tail, sorted_head, IsDistinct-from_sorted}
use Rattle.hx_lists.specs.Lists.{insert_by}
use Rattle.hx_ids.specs.declared.SessionId.{SessionId}
use Rattle.hx_ids.specs.declared.StateId.{StateId}
use Rattle.hx_ids.specs.declared.MsgId.{MsgId}
use Rattle.hx_ids.specs.declared.PartId.{PartId}
use Rattle.hx_model.specs.Model.{dropped}
use Rattle.hx_cluster.specs.declared.state.Row.{Row}
use Rattle.hx_cluster.specs.Ends.{is_row, part_eq, state_of}
use Rattle.hx_cluster.specs.Messages.{row_before, restated, with_row, row_put}
use Rattle.hx_store.specs.declared.Record.{Record}
use Rattle.hx_store.specs.Records.{record_at, is_before, set_to, changed, first_record, deleted}
use Rattle.hx_store.proofs.Entries.{absent-past_head, map-absent}
use Rattle.hx_store.proofs.Sorted.{below_first, which}
use Rattle.hx_slots.specs.declared.slot.Slot.{Slot}
use Rattle.hx_slots.specs.Slots.{IsPlaced, IsSlot, IsSlotOf, slot_key, row_with, row_of, rows_of, owned_values, slot_with, state_put, sent_at, sent_over, sent_last, put_at}
use Rattle.hx_slots.proofs.Keys.{key_before, key_same, of_part}
use Rattle.hx_slots.proofs.Entries.{all-insert, all-set, all-at, all-weaker, some_is, value_of, filter-none}

-- what holds of all slots
abbrev pub EachSlot : ℕ → List (ℕ × Record Slot) → Type 0
EachSlot changes slots = AllByRecursion (IsSlot changes) slots

-- the state in a record, if there are both
abbrev pub state_in : Option (Record Slot) → Option StateId
state_in None = None
state_in (Some r) = r.value.state

-- a row
abbrev row_at : SessionId → PartId → StateId → Row
row_at s p t = record { session = s; part = p; state = t }

-- an entry's key against that of a session's part
pub at_key : (changes : ℕ) (e : ℕ × Record Slot) (s : SessionId) (p : PartId) → IsSlot changes e → IsPlaced s p → (slot_key s p == e.0) ≡ ((e.1.value.session.0 == s.0) && part_eq e.1.value.part p)
at_key changes e s p is placed = rw is.key (key_same e.1.value.session s e.1.value.part p is.placed placed)

before_key : (changes : ℕ) (e : ℕ × Record Slot) (s : SessionId) (p : PartId) (t u : StateId) → IsSlot changes e → IsPlaced s p
    → nat_lt e.0 (slot_key s p) ≡ row_before (record { session = e.1.value.session; part = e.1.value.part; state = u }) (record { session = s; part = p; state = t })
before_key changes e s p t u is placed = rw is.key (key_before e.1.value.session s e.1.value.part p is.placed placed)

-- a part has a row where its record has a state
pub has_row : (changes : ℕ) (s : SessionId) (p : PartId) (es : List (ℕ × Record Slot)) → IsStrictlySortedBy nat_cmp (keys_of es) → EachSlot changes es → IsPlaced s p
    → list_any (is_row s p) (rows_of es) ≡ is_some (state_in (record_at es (slot_key s p)))
has_row changes s p [] ordered all placed = refl
has_row changes s p (e ∷ es) ordered all placed =
    one (slot_key s p == e.0) refl e.1.value.state refl (has_row changes s p es (sorted_tail _ _ _ ordered) all.1 placed)
  where
    one : (b : Bool) → (slot_key s p == e.0) ≡ b → (o : Option StateId) → e.1.value.state ≡ o
        → list_any (is_row s p) (rows_of es) ≡ is_some (state_in (record_at es (slot_key s p)))
        → list_any (is_row s p) (rows_of (e ∷ es)) ≡ is_some (state_in (cond (slot_key s p == e.0) (Some e.1) (record_at es (slot_key s p))))
    one true i None st rest = rw (i, st, rest, absent-past_head (slot_key s p) e es (IsDistinct-from_sorted _ _ ordered) i) refl
    one true i (Some u) st rest = rw (i, st, sym (at_key changes e s p all.0 placed) ∙ i) refl
    one false i None st rest = rw (i, st) rest
    one false i (Some u) st rest = rw (i, st, sym (at_key changes e s p all.0 placed) ∙ i) rest

-- and that state
pub state_is : (changes : ℕ) (s : SessionId) (p : PartId) (es : List (ℕ × Record Slot)) → IsStrictlySortedBy nat_cmp (keys_of es) → EachSlot changes es → IsPlaced s p
    → state_of (rows_of es) s p ≡ state_in (record_at es (slot_key s p))
state_is changes s p [] ordered all placed = refl
state_is changes s p (e ∷ es) ordered all placed =
    one (slot_key s p == e.0) refl e.1.value.state refl (state_is changes s p es (sorted_tail _ _ _ ordered) all.1 placed)
  where
    one : (b : Bool) → (slot_key s p == e.0) ≡ b → (o : Option StateId) → e.1.value.state ≡ o
        → state_of (rows_of es) s p ≡ state_in (record_at es (slot_key s p))
        → state_of (rows_of (e ∷ es)) s p ≡ state_in (cond (slot_key s p == e.0) (Some e.1) (record_at es (slot_key s p)))
    one true i None st rest = rw (i, st, rest, absent-past_head (slot_key s p) e es (IsDistinct-from_sorted _ _ ordered) i) refl
    one true i (Some u) st rest = rw (i, st, sym (at_key changes e s p all.0 placed) ∙ i) refl
    one false i None st rest = rw (i, st) rest
    one false i (Some u) st rest = rw (i, st, sym (at_key changes e s p all.0 placed) ∙ i) rest

all-below : (a b : ℕ) (ks : List ℕ) → nat_cmp a b ≡ Less → AllByRecursion (λ y. nat_cmp b y ≡ Less) ks → AllByRecursion (λ y. nat_cmp a y ≡ Less) ks
all-below a b [] h all = tt
all-below a b (k ∷ ks) h all = (nat_cmp_total.trans a b k h all.0, all-below a b ks h all.1)

-- a row whose key is below all stands in front
in_front : (changes : ℕ) (s : SessionId) (p : PartId) (t : StateId) (es : List (ℕ × Record Slot)) → EachSlot changes es → IsPlaced s p → AllByRecursion (λ y. nat_cmp (slot_key s p) y ≡ Less) (keys_of es)
    → insert_by row_before (record { session = s; part = p; state = t }) (rows_of es) ≡ record { session = s; part = p; state = t } ∷ rows_of es
in_front changes s p t [] all placed above = refl
in_front changes s p t (e ∷ es) all placed above = one e.1.value.state refl (in_front changes s p t es all.1 placed above.1)
  where
    past : nat_lt e.0 (slot_key s p) ≡ false
    past = let h : nat_cmp (slot_key s p) e.0 ≡ Less = above.0 in grind (arith, nat_tests)

    one : (o : Option StateId) → e.1.value.state ≡ o
        → insert_by row_before (record { session = s; part = p; state = t }) (rows_of es) ≡ record { session = s; part = p; state = t } ∷ rows_of es
        → insert_by row_before (record { session = s; part = p; state = t }) (rows_of (e ∷ es)) ≡ record { session = s; part = p; state = t } ∷ rows_of (e ∷ es)
    one None st rest = rw st rest
    one (Some u) st rest = rw (st, sym (before_key changes e s p t u all.0 placed) ∙ past) refl

-- where a slot has a state already
pub rows-restated : (changes : ℕ) (s : SessionId) (p : PartId) (t : StateId) (v : Slot) (es : List (ℕ × Record Slot)) → IsStrictlySortedBy nat_cmp (keys_of es) → EachSlot changes es → IsPlaced s p
    → v.session ≡ s → v.part ≡ p → v.state ≡ Some t → IfSome (record_at es (slot_key s p)) (λ r. is_some r.value.state ≡ true)
    → rows_of (set_to es (slot_key s p) v) ≡ map (restated s p t) (rows_of es)
rows-restated changes s p t v [] ordered all placed vs vp vt some = refl
rows-restated changes s p t v (e ∷ es) ordered all placed vs vp vt some =
    one (slot_key s p == e.0) refl e.1.value.state refl some (λ h. rows-restated changes s p t v es (sorted_tail _ _ _ ordered) all.1 placed vs vp vt h)
  where
    Rest : Type 0
    Rest = IfSome (record_at es (slot_key s p)) (λ r. is_some r.value.state ≡ true) → rows_of (set_to es (slot_key s p) v) ≡ map (restated s p t) (rows_of es)

    none : (o : Option (Record Slot)) → o ≡ None → IfSome o (λ r. is_some r.value.state ≡ true)
    none None h = tt
    none (Some r) h = cc

    row : (u : StateId) → ((e.1.value.session.0 == s.0) && part_eq e.1.value.part p) ≡ true → row_at e.1.value.session e.1.value.part t ≡ row_at s p t
    row u h = let same = of_part s e.1.value.session p e.1.value.part h in λ i. record { session = same.0 i; part = same.1 i; state = t }

    one : (b : Bool) → (slot_key s p == e.0) ≡ b → (o : Option StateId) → e.1.value.state ≡ o → IfSome (cond (slot_key s p == e.0) (Some e.1) (record_at es (slot_key s p))) (λ r. is_some r.value.state ≡ true) → Rest
        → rows_of ((if slot_key s p == e.0 then (e.0, changed e.1 v) else e) ∷ set_to es (slot_key s p) v) ≡ map (restated s p t) (rows_of (e ∷ es))
    one true i None st h rest = absurd (no e.1.value.state st (subst (λ b. IfSome (cond b (Some e.1) (record_at es (slot_key s p))) (λ r. is_some r.value.state ≡ true)) i h))
      where
        no : (o : Option StateId) → o ≡ None → is_some o ≡ true → ⊥
        no None h k = cc
        no (Some x) h k = cc
    one true i (Some u) st h rest =
        let a = sym (at_key changes e s p all.0 placed) ∙ i in
        rw (i, st, vt, vs, vp, a, row u a) (ap (λ rows. record { session = s; part = p; state = t } ∷ rows) (rest (none _ (absent-past_head (slot_key s p) e es (IsDistinct-from_sorted _ _ ordered) i))))
    one false i None st h rest = rw (i, st) (rest (subst (λ b. IfSome (cond b (Some e.1) (record_at es (slot_key s p))) (λ r. is_some r.value.state ≡ true)) i h))
    one false i (Some u) st h rest =
        rw (i, st, sym (at_key changes e s p all.0 placed) ∙ i) (ap (λ rows. record { session = e.1.value.session; part = e.1.value.part; state = u } ∷ rows) (rest (subst (λ b. IfSome (cond b (Some e.1) (record_at es (slot_key s p))) (λ r. is_some r.value.state ≡ true)) i h)))

-- where the first entry's key is another one, a record that is there has a higher key
pub above_first : (k : ℕ) (r : Record Slot) (e : ℕ × Record Slot) (es : List (ℕ × Record Slot)) → IsStrictlySortedBy nat_cmp (keys_of (e ∷ es)) → (k == e.0) ≡ false → record_at es k ≡ Some r → nat_lt e.0 k ≡ true
above_first k r e es ordered i there = by (which k e.0)
  where
    by : (k < e.0) ⊎ ((k ≡ e.0) ⊎ (e.0 < k)) → nat_lt e.0 k ≡ true
    by (inl less) =
        let none : None ≡ Some r = sym (below_first k e es ordered less) ∙ rw i there in cc
    by (inr (inl h)) = absurd (grind (arith, nat_tests))
    by (inr (inr more)) = grind (arith, nat_tests)

-- and where it gets its first
pub rows-filled : (changes : ℕ) (s : SessionId) (p : PartId) (t : StateId) (v : Slot) (r : Record Slot) (es : List (ℕ × Record Slot)) → IsStrictlySortedBy nat_cmp (keys_of es) → EachSlot changes es → IsPlaced s p
    → v.session ≡ s → v.part ≡ p → v.state ≡ Some t → record_at es (slot_key s p) ≡ Some r → r.value.state ≡ None
    → rows_of (set_to es (slot_key s p) v) ≡ insert_by row_before (record { session = s; part = p; state = t }) (rows_of es)
rows-filled changes s p t v r [] ordered all placed vs vp vt found free = cc
rows-filled changes s p t v r (e ∷ es) ordered all placed vs vp vt found free =
    one (slot_key s p == e.0) refl found e.1.value.state refl (λ h. rows-filled changes s p t v r es (sorted_tail _ _ _ ordered) all.1 placed vs vp vt h free)
  where
    one : (b : Bool) → (slot_key s p == e.0) ≡ b → cond b (Some e.1) (record_at es (slot_key s p)) ≡ Some r → (o : Option StateId) → e.1.value.state ≡ o
        → (record_at es (slot_key s p) ≡ Some r → rows_of (set_to es (slot_key s p) v) ≡ insert_by row_before (record { session = s; part = p; state = t }) (rows_of es))
        → rows_of ((if slot_key s p == e.0 then (e.0, changed e.1 v) else e) ∷ set_to es (slot_key s p) v) ≡ insert_by row_before (record { session = s; part = p; state = t }) (rows_of (e ∷ es))
    one true i there None st rest =
        let key : slot_key s p ≡ e.0 = eqb-true (slot_key s p) e.0 i in
        rw (i, st, vt, vs, vp, map-absent (slot_key s p) (λ x. (x.0, changed x.1 v)) es (absent-past_head (slot_key s p) e es (IsDistinct-from_sorted _ _ ordered) i))
        (sym (in_front changes s p t es all.1 placed (subst (λ k. AllByRecursion (λ y. nat_cmp k y ≡ Less) (keys_of es)) (sym key) (sorted_head _ _ _ ordered))))
    one true i there (Some u) st rest = let same : e.1 ≡ r = cc in let no : None ≡ Some u = sym free ∙ ap (λ (x : Record Slot). x.value.state) (sym same) ∙ st in cc
    one false i there None st rest = rw (i, st) (rest there)
    one false i there (Some u) st rest = rw (i, st, sym (before_key changes e s p t u all.0 placed) ∙ above_first (slot_key s p) r e es ordered i there) (ap (λ rows. record { session = e.1.value.session; part = e.1.value.part; state = u } ∷ rows) (rest there))

-- a slot that is there, put at a state
pub rows-set : (changes : ℕ) (s : SessionId) (p : PartId) (t : StateId) (v : Slot) (r : Record Slot) (es : List (ℕ × Record Slot)) → IsStrictlySortedBy nat_cmp (keys_of es) → EachSlot changes es → IsPlaced s p
    → v.session ≡ s → v.part ≡ p → v.state ≡ Some t → record_at es (slot_key s p) ≡ Some r → rows_of (set_to es (slot_key s p) v) ≡ with_row (rows_of es) s p t
rows-set changes s p t v r es ordered all placed vs vp vt found = one r.value.state refl
  where
    one : (o : Option StateId) → r.value.state ≡ o → rows_of (set_to es (slot_key s p) v) ≡ with_row (rows_of es) s p t
    one None free = rw (has_row changes s p es ordered all placed, found, free) (rows-filled changes s p t v r es ordered all placed vs vp vt found free)
    one (Some u) has = rw (has_row changes s p es ordered all placed, found, has) (rows-restated changes s p t v es ordered all placed vs vp vt (rw (found, has) refl))

-- a slot without a state is made
rows-made : (k : ℕ) (r : Record Slot) (es : List (ℕ × Record Slot)) → r.value.state ≡ None → rows_of (insert_by is_before (k, r) es) ≡ rows_of es
rows-made k r [] free = rw free refl
rows-made k r (e ∷ es) free = one (nat_lt e.0 k) (rows-made k r es free)
  where
    one : (b : Bool) → rows_of (insert_by is_before (k, r) es) ≡ rows_of es → rows_of (if b then e ∷ insert_by is_before (k, r) es else (k, r) ∷ e ∷ es) ≡ rows_of (e ∷ es)
    one true rest = ap (λ rows. cons_option (row_of e.1.value) rows) rest
    one false rest = rw free refl

-- a slot keeps its state
rows-kept : (changes : ℕ) (s : SessionId) (p : PartId) (v : Slot) (r : Record Slot) (es : List (ℕ × Record Slot)) → IsStrictlySortedBy nat_cmp (keys_of es) → EachSlot changes es → IsPlaced s p
    → v.session ≡ s → v.part ≡ p → record_at es (slot_key s p) ≡ Some r → v.state ≡ r.value.state → rows_of (set_to es (slot_key s p) v) ≡ rows_of es
rows-kept changes s p v r [] ordered all placed vs vp found same = refl
rows-kept changes s p v r (e ∷ es) ordered all placed vs vp found same =
    one (slot_key s p == e.0) refl found (λ h. rows-kept changes s p v r es (sorted_tail _ _ _ ordered) all.1 placed vs vp h same)
  where
    row : ((e.1.value.session.0 == s.0) && part_eq e.1.value.part p) ≡ true → (o : Option StateId) → v.state ≡ o → e.1.value.state ≡ o → row_of v ≡ row_of e.1.value
    row h o st est =
        let at = of_part s e.1.value.session p e.1.value.part h in
        rw (st, est) (two at o)
      where
        two : (e.1.value.session ≡ s) × (e.1.value.part ≡ p) → (o : Option StateId) → row_with v o ≡ row_with e.1.value o
        two at None = refl
        two at (Some t) = rw (vs, vp, at.0, at.1) refl

    one : (b : Bool) → (slot_key s p == e.0) ≡ b → cond b (Some e.1) (record_at es (slot_key s p)) ≡ Some r
        → (record_at es (slot_key s p) ≡ Some r → rows_of (set_to es (slot_key s p) v) ≡ rows_of es)
        → rows_of ((if slot_key s p == e.0 then (e.0, changed e.1 v) else e) ∷ set_to es (slot_key s p) v) ≡ rows_of (e ∷ es)
    one true i h rest =
        let is : e.1 ≡ r = some_is e.1 r h in
        let est : e.1.value.state ≡ v.state = ap (λ (x : Record Slot). x.value.state) is ∙ sym same in
        rw (i, map-absent (slot_key s p) (λ x. (x.0, changed x.1 v)) es (absent-past_head (slot_key s p) e es (IsDistinct-from_sorted _ _ ordered) i))
        (ap (λ (o : Option Row). cons_option o (rows_of es)) (row (sym (at_key changes e s p all.0 placed) ∙ i) v.state refl est))
    one false i h rest = rw i (ap (λ rows. cons_option (row_of e.1.value) rows) (rest h))

-- a slot that loses its state
rows-dropped : (changes : ℕ) (s : SessionId) (p : PartId) (v : Slot) (es : List (ℕ × Record Slot)) → EachSlot changes es → IsPlaced s p → v.state ≡ None
    → rows_of (set_to es (slot_key s p) v) ≡ filter (λ r. not (is_row s p r)) (rows_of es)
rows-dropped changes s p v [] all placed free = refl
rows-dropped changes s p v (e ∷ es) all placed free = one (slot_key s p == e.0) refl e.1.value.state refl (rows-dropped changes s p v es all.1 placed free)
  where
    one : (b : Bool) → (slot_key s p == e.0) ≡ b → (o : Option StateId) → e.1.value.state ≡ o → rows_of (set_to es (slot_key s p) v) ≡ filter (λ r. not (is_row s p r)) (rows_of es)
        → rows_of ((if slot_key s p == e.0 then (e.0, changed e.1 v) else e) ∷ set_to es (slot_key s p) v) ≡ filter (λ r. not (is_row s p r)) (rows_of (e ∷ es))
    one true i None st rest = rw (i, free, st) rest
    one true i (Some u) st rest = rw (i, free, st, sym (at_key changes e s p all.0 placed) ∙ i) rest
    one false i None st rest = rw (i, st) rest
    one false i (Some u) st rest = rw (i, st, sym (at_key changes e s p all.0 placed) ∙ i) (ap (λ rows. record { session = e.1.value.session; part = e.1.value.part; state = u } ∷ rows) rest)

-- a slot that is removed
rows-deleted : (changes : ℕ) (s : SessionId) (p : PartId) (es : List (ℕ × Record Slot)) → EachSlot changes es → IsPlaced s p
    → rows_of (deleted es (slot_key s p)) ≡ filter (λ r. not (is_row s p r)) (rows_of es)
rows-deleted changes s p [] all placed = refl
rows-deleted changes s p (e ∷ es) all placed = one (slot_key s p == e.0) refl e.1.value.state refl (rows-deleted changes s p es all.1 placed)
  where
    one : (b : Bool) → (slot_key s p == e.0) ≡ b → (o : Option StateId) → e.1.value.state ≡ o → rows_of (deleted es (slot_key s p)) ≡ filter (λ r. not (is_row s p r)) (rows_of es)
        → rows_of (cond (not (slot_key s p == e.0)) (e ∷ deleted es (slot_key s p)) (deleted es (slot_key s p))) ≡ filter (λ r. not (is_row s p r)) (rows_of (e ∷ es))
    one true i None st rest = rw (i, st) rest
    one true i (Some u) st rest = rw (i, st, sym (at_key changes e s p all.0 placed) ∙ i) rest
    one false i None st rest = rw (i, st) rest
    one false i (Some u) st rest = rw (i, st, sym (at_key changes e s p all.0 placed) ∙ i) (ap (λ rows. record { session = e.1.value.session; part = e.1.value.part; state = u } ∷ rows) rest)

pub rows-taken : (changes : ℕ) (k : ℕ) (r : Record Slot) (es : List (ℕ × Record Slot)) → EachSlot changes es → record_at es k ≡ Some r
    → rows_of (deleted es k) ≡ filter (λ x. not (is_row r.value.session r.value.part x)) (rows_of es)
rows-taken changes k r es all there =
    let is : IsSlot changes (k, r) = all-at (IsSlot changes) k r es all there in
    rw is.key (rows-deleted changes r.value.session r.value.part es all is.placed)

-- and had no state
pub rows-untaken : (changes : ℕ) (k : ℕ) (r : Record Slot) (es : List (ℕ × Record Slot)) → IsStrictlySortedBy nat_cmp (keys_of es) → EachSlot changes es → record_at es k ≡ Some r → r.value.state ≡ None
    → rows_of (deleted es k) ≡ rows_of es
rows-untaken changes k r es ordered all there free =
    let is : IsSlot changes (k, r) = all-at (IsSlot changes) k r es all there in
    let at : record_at es (slot_key r.value.session r.value.part) ≡ Some r = subst (λ (n : ℕ). record_at es n ≡ Some r) is.key there in
    rows-taken changes k r es all there ∙ filter-none (is_row r.value.session r.value.part) (rows_of es) (rw (has_row changes r.value.session r.value.part es ordered all is.placed, at, free) refl)

-- what a session owns
pub rows-owned : (changes : ℕ) (s : SessionId) (es : List (ℕ × Record Slot)) → EachSlot changes es → filter_map row_of (owned_values es s 0) ≡ filter (λ r. r.session.0 == s.0) (rows_of es)
rows-owned changes s [] all = refl
rows-owned changes s (e ∷ es) all = one (e.1.value.session.0 == s.0) refl e.1.value.state refl (rows-owned changes s es all.1)
  where
    up : nat_le 0 e.0 ≡ true
    up = grind (arith, nat_tests)

    one : (b : Bool) → (e.1.value.session.0 == s.0) ≡ b → (o : Option StateId) → e.1.value.state ≡ o → filter_map row_of (owned_values es s 0) ≡ filter (λ r. r.session.0 == s.0) (rows_of es)
        → filter_map row_of (owned_values (e ∷ es) s 0) ≡ filter (λ r. r.session.0 == s.0) (rows_of (e ∷ es))
    one true i None st rest = rw (all.0.owner, i, up, st) rest
    one true i (Some u) st rest = rw (all.0.owner, i, up, st, i) (ap (λ rows. record { session = e.1.value.session; part = e.1.value.part; state = u } ∷ rows) rest)
    one false i None st rest = rw (all.0.owner, i, st) rest
    one false i (Some u) st rest = rw (all.0.owner, i, st, i) rest

-- slots stay slots
pub slots-later : (changes : ℕ) (es : List (ℕ × Record Slot)) → EachSlot changes es → EachSlot (changes + 1) es
slots-later changes es all = all-weaker (IsSlot changes) (IsSlot (changes + 1)) later es all
  where
    later : (e : ℕ × Record Slot) → IsSlot changes e → IsSlot (changes + 1) e
    later e is = let v : e.1.version ≤ changes + 1 = is.version in record { placed = is.placed; key = is.key; owner = is.owner; version = omega arith }

slots-set : (changes : ℕ) (s : SessionId) (p : PartId) (v : Slot) (r : Record Slot) (es : List (ℕ × Record Slot)) → IsStrictlySortedBy nat_cmp (keys_of es) → EachSlot changes es → IsPlaced s p
    → record_at es (slot_key s p) ≡ Some r → v.session ≡ s → v.part ≡ p → EachSlot (changes + 1) (set_to es (slot_key s p) v)
slots-set changes s p v r es ordered all placed there vs vp =
    let is : IsSlot changes (slot_key s p, r) = all-at (IsSlot changes) (slot_key s p) r es all there in
    let n : r.version ≤ changes + 1 = is.version in
    let same = of_part s r.value.session p r.value.part (sym (at_key changes (slot_key s p, r) s p is placed) ∙ same_key (slot_key s p)) in
    all-set (IsSlot (changes + 1)) (slot_key s p) v r es ordered (slots-later changes es all) there
    (record { placed = rw (vs, vp) placed; key = rw (vs, vp) refl; owner = is.owner ∙ ap (λ (x : SessionId). Some x) (same.0 ∙ sym vs); version = omega arith })
  where
    same_key : (k : ℕ) → (k == k) ≡ true
    same_key k = grind (arith, nat_tests)

-- slots and rows where a message was sent
pub slots-sent : (changes : ℕ) (s : SessionId) (p : PartId) (id : MsgId) (es : List (ℕ × Record Slot)) → IsStrictlySortedBy nat_cmp (keys_of es) → EachSlot changes es → IsPlaced s p
    → EachSlot (changes + 1) (sent_at es (slot_key s p) s p id) × (rows_of (sent_at es (slot_key s p) s p id) ≡ rows_of es)
slots-sent changes s p id es ordered all placed = one (record_at es (slot_key s p)) refl
  where
    one : (o : Option (Record Slot)) → record_at es (slot_key s p) ≡ o → EachSlot (changes + 1) (sent_over es (slot_key s p) s p id o) × (rows_of (sent_over es (slot_key s p) s p id o) ≡ rows_of es)
    one None absent =
        let r : Record Slot = first_record (Some s) (slot_with s p None (Some id)) in
        let here : IsSlot (changes + 1) (slot_key s p, first_record (Some s) (slot_with s p None (Some id))) = record { placed = placed; key = refl; owner = refl; version = omega arith } in
        (all-insert (IsSlot (changes + 1)) is_before (slot_key s p, first_record (Some s) (slot_with s p None (Some id))) es (slots-later changes es all) here, rows-made (slot_key s p) (first_record (Some s) (slot_with s p None (Some id))) es refl)
    one (Some r) there =
        (slots-set changes s p (slot_with s p r.value.state (Some id)) r es ordered all placed there refl refl, rows-kept changes s p (slot_with s p r.value.state (Some id)) r es ordered all placed refl refl there refl)

-- and where a replica was put at a state
pub slots-put : (changes : ℕ) (s : SessionId) (p : PartId) (t : StateId) (r : Record Slot) (es : List (ℕ × Record Slot)) → IsStrictlySortedBy nat_cmp (keys_of es) → EachSlot changes es → IsPlaced s p → record_at es (slot_key s p) ≡ Some r
    → EachSlot (changes + 1) (put_at es (slot_key s p) s p t) × (rows_of (put_at es (slot_key s p) s p t) ≡ row_put (rows_of es) s p t)
slots-put changes s p t r es ordered all placed there =
    (slots-set changes s p (slot_with s p (state_put t) (sent_last (record_at es (slot_key s p)))) r es ordered all placed there refl refl, one (t.0 == dropped.0))
  where
    one : (b : Bool) → rows_of (set_to es (slot_key s p) (slot_with s p (if b then None else Some t) (sent_last (record_at es (slot_key s p))))) ≡ (if b then filter (λ x. not (is_row s p x)) (rows_of es) else with_row (rows_of es) s p t)
    one true = rows-dropped changes s p (slot_with s p None (sent_last (record_at es (slot_key s p)))) es all placed refl
    one false = rows-set changes s p t (slot_with s p (Some t) (sent_last (record_at es (slot_key s p)))) r es ordered all placed refl refl refl there

-- a part whose record is absent has no state
pub state_absent : (changes : ℕ) (s : SessionId) (p : PartId) (es : List (ℕ × Record Slot)) → EachSlot changes es → (IsPlaced s p → record_at es (slot_key s p) ≡ None) → state_of (rows_of es) s p ≡ None
state_absent changes s p [] all absent = refl
state_absent changes s p (e ∷ es) all absent = one ((e.1.value.session.0 == s.0) && part_eq e.1.value.part p) refl e.1.value.state refl (state_absent changes s p es all.1)
  where
    past : (b : Bool) → cond b (Some e.1) (record_at es (slot_key s p)) ≡ None → record_at es (slot_key s p) ≡ None
    past true h = cc
    past false h = h

    no : ((e.1.value.session.0 == s.0) && part_eq e.1.value.part p) ≡ true → ⊥
    no i =
        let at = of_part s e.1.value.session p e.1.value.part i in
        let placed : IsPlaced s p = subst (λ (q : PartId). IsPlaced s q) at.1 (subst (λ (x : SessionId). IsPlaced x e.1.value.part) at.0 all.0.placed) in
        two (slot_key s p == e.0) (at_key changes e s p all.0 placed ∙ i) (absent placed)
      where
        two : (b : Bool) → b ≡ true → cond b (Some e.1) (record_at es (slot_key s p)) ≡ None → ⊥
        two true h g = cc
        two false h g = cc

    one : (b : Bool) → ((e.1.value.session.0 == s.0) && part_eq e.1.value.part p) ≡ b → (o : Option StateId) → e.1.value.state ≡ o
        → ((IsPlaced s p → record_at es (slot_key s p) ≡ None) → state_of (rows_of es) s p ≡ None) → state_of (rows_of (e ∷ es)) s p ≡ None
    one true i o st rest = absurd (no i)
    one false i None st rest = rw st (rest (λ placed. past (slot_key s p == e.0) (absent placed)))
    one false i (Some u) st rest = rw (st, i) (rest (λ placed. past (slot_key s p == e.0) (absent placed)))

pub state_there : (changes : ℕ) (s : SessionId) (p : PartId) (slot : Slot) (es : List (ℕ × Record Slot)) → EachSlot changes es → IsSlotOf es s p slot → slot.state ≡ state_of (rows_of es) s p
state_there changes s p slot es all is =
    let r = value_of slot (record_at es (slot_key s p)) (sym is.there) in
    sym (state_is changes s p es is.ordered all is.placed ∙ rw r.1 (ap (λ (x : Slot). x.state) r.2))

pub state_had : (changes : ℕ) (s : SessionId) (p : PartId) (t : Option StateId) (es : List (ℕ × Record Slot)) → EachSlot changes es → IsPlaced s p → IsStrictlySortedBy nat_cmp (keys_of es)
    → option_map (λ r. r.value.state) (record_at es (slot_key s p)) ≡ Some t → t ≡ state_of (rows_of es) s p
state_had changes s p t es all placed ordered had = one (record_at es (slot_key s p)) refl had
  where
    one : (o : Option (Record Slot)) → record_at es (slot_key s p) ≡ o → option_map (λ r. r.value.state) o ≡ Some t → t ≡ state_of (rows_of es) s p
    one None is h = cc
    one (Some r) is h = sym (some_is r.value.state t h) ∙ state_there changes s p r.value es all (record { placed = placed; ordered = ordered; there = ap (option_map (λ x. x.value)) is })
