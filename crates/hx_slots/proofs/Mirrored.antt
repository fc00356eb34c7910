-- The rows of a session's slots and their number, as the slots change.
use Rattle.std.proofs.Common.{◌≡◌, ℕ, suc, Bool, true, false, cond, not, List, [], ◌∷◌, length, Some, None, Option, refl, sym, ap, ◌∙◌, subst, arith}
use Rattle.std.specs.Prelude.{◌==◌, ◌&&◌, nat_lt, nat_le, is_some, if◌then◌else◌}
use Rattle.std.specs.List.{cons_option, AllByRecursion}
use Rattle.std.specs.List.Sorted.{IsStrictlySortedBy}
use Rattle.std.specs.Ordering.{nat_cmp}
use Rattle.std.specs.Map.{keys_of}
use Rattle.std.proofs.lemmas.Bool.Decides.{nat_tests}
use Rattle.std.proofs.lemmas.List.{length-map}
use Rattle.hx_lists.specs.Lists.{insert_by}
use Rattle.hx_ids.specs.declared.SessionId.{SessionId}
use Rattle.hx_ids.specs.declared.PartId.{PartId}
use Rattle.hx_cluster.specs.declared.state.Row.{Row}
use Rattle.hx_store.specs.declared.Record.{Record}
use Rattle.hx_store.specs.Records.{record_at, is_before, set_to, changed, deleted, owns, is_owned_by, owned_from}
use Rattle.hx_store.proofs.Sorted.{sorted-where}
use Rattle.hx_slots.specs.declared.slot.Slot.{Slot}
use Rattle.hx_slots.specs.Slots.{IsPlaced, slot_key, row_of, rows_of}
use Rattle.hx_slots.specs.Index.{Ready, CanPut, one_more, put_in}
use Rattle.hx_slots.specs.Mirror.{ready_of}
use Rattle.hx_slots.proofs.Entries.{some_is}
use Rattle.hx_slots.proofs.RowsOf.{EachSlot}
use Rattle.hx_slots.proofs.Ready.{IsOwn, rows-parted, row-there, rows-fewer, rows-placed}

-- one entry more in front
own-step : (e : ℕ × Record Slot) (es : List (ℕ × Record Slot)) (s : SessionId) (b : Bool) → owns e.1.owner s ≡ b → owned_from (e ∷ es) s 0 ≡ cond b (e ∷ owned_from es s 0) (owned_from es s 0)
own-step e es s b own = one b own
  where
    low : nat_le 0 e.0 ≡ true
    low = grind (arith, nat_tests)

    one : (b : Bool) → owns e.1.owner s ≡ b → owned_from (e ∷ es) s 0 ≡ cond b (e ∷ owned_from es s 0) (owned_from es s 0)
    one true i = rw (i, low) refl
    one false i = rw i refl

-- rows and their number
abbrev ready_with : ℕ → List Row → Ready
ready_with n rows = record { slots = n; rows = rows }

same_ready : (a b : ℕ) (rows others : List Row) → a ≡ b → rows ≡ others → ready_with a rows ≡ ready_with b others
same_ready a b rows others h k = λ i. record { slots = h i; rows = k i }

abbrev ready_in : List (ℕ × Record Slot) → Ready
ready_in own = ready_with (length own) (rows_of own)

abbrev with_one : Option Row → Ready → Ready
with_one row kept = ready_with (suc kept.slots) (cons_option row kept.rows)

ready-step : (e : ℕ × Record Slot) (es : List (ℕ × Record Slot)) (s : SessionId) (b : Bool) → owns e.1.owner s ≡ b → ready_of (e ∷ es) s ≡ cond b (with_one (row_of e.1.value) (ready_of es s)) (ready_of es s)
ready-step e es s b own = ap ready_in (own-step e es s b own) ∙ one b
  where
    one : (b : Bool) → ready_in (cond b (e ∷ owned_from es s 0) (owned_from es s 0)) ≡ cond b (with_one (row_of e.1.value) (ready_of es s)) (ready_of es s)
    one true = refl
    one false = refl

same_behind : (e : ℕ × Record Slot) (es fs : List (ℕ × Record Slot)) (s : SessionId) → ready_of es s ≡ ready_of fs s → ready_of (e ∷ es) s ≡ ready_of (e ∷ fs) s
same_behind e es fs s same =
    ready-step e es s (owns e.1.owner s) refl ∙ ap (λ (kept : Ready). cond (owns e.1.owner s) (with_one (row_of e.1.value) kept) kept) same ∙ sym (ready-step e fs s (owns e.1.owner s) refl)

-- a slot more, of the session
more_in : (row : Option Row) (kept : Ready) → with_one row (one_more kept) ≡ one_more (with_one row kept)
more_in row kept = same_ready _ _ _ _ (omega arith) refl

pub ready-made : (s : SessionId) (k : ℕ) (r : Record Slot) (es : List (ℕ × Record Slot)) → owns r.owner s ≡ true → r.value.state ≡ None → ready_of (insert_by is_before (k, r) es) s ≡ one_more (ready_of es s)
ready-made s k r es own bare = go es
  where
    front : (es : List (ℕ × Record Slot)) → ready_of ((k, r) ∷ es) s ≡ one_more (ready_of es s)
    front es = ready-step (k, r) es s true own ∙ same_ready _ _ _ _ (omega arith) (rw bare refl)

    go : (es : List (ℕ × Record Slot)) → ready_of (insert_by is_before (k, r) es) s ≡ one_more (ready_of es s)
    go [] = front []
    go (e ∷ es) = one (nat_lt e.0 k) (go es)
      where
        mine : (d : Bool) → owns e.1.owner s ≡ d → ready_of (insert_by is_before (k, r) es) s ≡ one_more (ready_of es s) → ready_of (e ∷ insert_by is_before (k, r) es) s ≡ one_more (ready_of (e ∷ es) s)
        mine true j rest = ready-step e (insert_by is_before (k, r) es) s true j ∙ ap (with_one (row_of e.1.value)) rest ∙ more_in (row_of e.1.value) (ready_of es s) ∙ ap one_more (sym (ready-step e es s true j))
        mine false j rest = ready-step e (insert_by is_before (k, r) es) s false j ∙ rest ∙ ap one_more (sym (ready-step e es s false j))

        one : (b : Bool) → ready_of (insert_by is_before (k, r) es) s ≡ one_more (ready_of es s) → ready_of (if b then e ∷ insert_by is_before (k, r) es else (k, r) ∷ e ∷ es) s ≡ one_more (ready_of (e ∷ es) s)
        one true rest = mine (owns e.1.owner s) refl rest
        one false rest = front (e ∷ es)

-- and of another session
pub ready-unmade : (s : SessionId) (k : ℕ) (r : Record Slot) (es : List (ℕ × Record Slot)) → owns r.owner s ≡ false → ready_of (insert_by is_before (k, r) es) s ≡ ready_of es s
ready-unmade s k r [] other = ready-step (k, r) [] s false other
ready-unmade s k r (e ∷ es) other = one (nat_lt e.0 k) (ready-unmade s k r es other)
  where
    one : (b : Bool) → ready_of (insert_by is_before (k, r) es) s ≡ ready_of es s → ready_of (if b then e ∷ insert_by is_before (k, r) es else (k, r) ∷ e ∷ es) s ≡ ready_of (e ∷ es) s
    one true rest = same_behind e (insert_by is_before (k, r) es) es s rest
    one false rest = ready-step (k, r) (e ∷ es) s false other

-- a slot that keeps its row, or isn't the session's
pub ready-kept : (s : SessionId) (k : ℕ) (v : Slot) (es : List (ℕ × Record Slot)) → AllByRecursion (λ e. (k == e.0) ≡ true → owns e.1.owner s ≡ true → row_of v ≡ row_of e.1.value) es → ready_of (set_to es k v) s ≡ ready_of es s
ready-kept s k v [] all = refl
ready-kept s k v (e ∷ es) all = one (k == e.0) refl (owns e.1.owner s) refl (ready-kept s k v es all.1)
  where
    one : (b : Bool) → (k == e.0) ≡ b → (d : Bool) → owns e.1.owner s ≡ d → ready_of (set_to es k v) s ≡ ready_of es s → ready_of ((if b then (e.0, changed e.1 v) else e) ∷ set_to es k v) s ≡ ready_of (e ∷ es) s
    one true i true j rest =
        ready-step (e.0, changed e.1 v) (set_to es k v) s true j ∙ ap (with_one (row_of v)) rest ∙ ap (λ (row : Option Row). with_one row (ready_of es s)) (all.0 i j) ∙ sym (ready-step e es s true j)
    one true i false j rest = ready-step (e.0, changed e.1 v) (set_to es k v) s false j ∙ rest ∙ sym (ready-step e es s false j)
    one false i d j rest = same_behind e (set_to es k v) es s rest

-- a slot that is removed, which isn't the session's
pub ready-unremoved : (s : SessionId) (k : ℕ) (es : List (ℕ × Record Slot)) → AllByRecursion (λ e. (k == e.0) ≡ true → owns e.1.owner s ≡ false) es → ready_of (deleted es k) s ≡ ready_of es s
ready-unremoved s k [] all = refl
ready-unremoved s k (e ∷ es) all = one (k == e.0) refl (ready-unremoved s k es all.1)
  where
    one : (b : Bool) → (k == e.0) ≡ b → ready_of (deleted es k) s ≡ ready_of es s → ready_of (cond (not b) (e ∷ deleted es k) (deleted es k)) s ≡ ready_of (e ∷ es) s
    one true i rest = rest ∙ sym (ready-step e es s false (all.0 i))
    one false i rest = same_behind e (deleted es k) es s rest

-- the slots of a session
own-all : (changes : ℕ) (s : SessionId) (es : List (ℕ × Record Slot)) → EachSlot changes es → AllByRecursion (IsOwn changes s) (owned_from es s 0)
own-all changes s [] all = tt
own-all changes s (e ∷ es) all = one (owns e.1.owner s) refl (own-all changes s es all.1)
  where
    All : List (ℕ × Record Slot) → Type 0
    All own = AllByRecursion (IsOwn changes s) own

    one : (b : Bool) → owns e.1.owner s ≡ b → All (owned_from es s 0) → All (owned_from (e ∷ es) s 0)
    one true i rest = subst All (sym (own-step e es s true i)) ((all.0, ap (λ (o : Option SessionId). owns o s) (sym all.0.owner) ∙ i), rest)
    one false i rest = subst All (sym (own-step e es s false i)) rest

own-record : (s : SessionId) (k : ℕ) (r : Record Slot) (es : List (ℕ × Record Slot)) → owns r.owner s ≡ true → record_at es k ≡ Some r → record_at (owned_from es s 0) k ≡ Some r
own-record s k r [] own there = cc
own-record s k r (e ∷ es) own there = one (k == e.0) refl (owns e.1.owner s) refl there (own-record s k r es own)
  where
    At : List (ℕ × Record Slot) → Type 0
    At xs = record_at xs k ≡ Some r

    one : (b : Bool) → (k == e.0) ≡ b → (d : Bool) → owns e.1.owner s ≡ d → cond b (Some e.1) (record_at es k) ≡ Some r → (record_at es k ≡ Some r → At (owned_from es s 0)) → At (owned_from (e ∷ es) s 0)
    one true i true j h rest = subst At (sym (own-step e es s true j)) (rw i h)
    one true i false j h rest = let no : true ≡ false = sym own ∙ ap (λ (x : Record Slot). owns x.owner s) (sym (some_is e.1 r h)) ∙ j in cc
    one false i true j h rest = subst At (sym (own-step e es s true j)) (rw i (rest h))
    one false i false j h rest = subst At (sym (own-step e es s false j)) (rest h)

own-set : (s : SessionId) (k : ℕ) (v : Slot) (es : List (ℕ × Record Slot)) → owned_from (set_to es k v) s 0 ≡ set_to (owned_from es s 0) k v
own-set s k v [] = refl
own-set s k v (e ∷ es) = one (owns e.1.owner s) refl (own-set s k v es)
  where
    put : ℕ × Record Slot → ℕ × Record Slot
    put x = if k == x.0 then (x.0, changed x.1 v) else x

    kept : (b : Bool) → owns (if b then (e.0, changed e.1 v) else e).1.owner s ≡ owns e.1.owner s
    kept true = refl
    kept false = refl

    one : (d : Bool) → owns e.1.owner s ≡ d → owned_from (set_to es k v) s 0 ≡ set_to (owned_from es s 0) k v → owned_from (put e ∷ set_to es k v) s 0 ≡ set_to (owned_from (e ∷ es) s 0) k v
    one true i rest = own-step (put e) (set_to es k v) s true (kept (k == e.0) ∙ i) ∙ ap (λ (xs : List (ℕ × Record Slot)). put e ∷ xs) rest ∙ ap (λ (xs : List (ℕ × Record Slot)). set_to xs k v) (sym (own-step e es s true i))
    one false i rest = own-step (put e) (set_to es k v) s false (kept (k == e.0) ∙ i) ∙ rest ∙ ap (λ (xs : List (ℕ × Record Slot)). set_to xs k v) (sym (own-step e es s false i))

-- a slot that is put at a state
pub can-put : (changes : ℕ) (s : SessionId) (p : PartId) (r : Record Slot) (es : List (ℕ × Record Slot)) → IsStrictlySortedBy nat_cmp (keys_of es) → EachSlot changes es → IsPlaced s p → owns r.owner s ≡ true → record_at es (slot_key s p) ≡ Some r
    → CanPut p (is_some r.value.state) (ready_of es s)
can-put changes s p r es ordered all placed own there =
    let xs = owned_from es s 0 in
    let sorted = sorted-where (λ e. is_owned_by s e && nat_le 0 e.0) es ordered in
    let mine = own-all changes s es all in
    let at = own-record s (slot_key s p) r es own there in
    record {
      ordered = rows-parted changes s p xs sorted mine placed;
      there = row-there changes s p r xs sorted mine placed at;
      room = rows-fewer (slot_key s p) r xs at;
    }

pub ready-put : (changes : ℕ) (s : SessionId) (p : PartId) (v : Slot) (r : Record Slot) (es : List (ℕ × Record Slot)) → IsStrictlySortedBy nat_cmp (keys_of es) → EachSlot changes es → IsPlaced s p → owns r.owner s ≡ true → record_at es (slot_key s p) ≡ Some r
    → ready_of (set_to es (slot_key s p) v) s ≡ put_in p (is_some r.value.state) (row_of v) (ready_of es s)
ready-put changes s p v r es ordered all placed own there =
    let xs = owned_from es s 0 in
    ap ready_in (own-set s (slot_key s p) v es)
    ∙ same_ready _ _ _ _ (length-map xs (λ e. if slot_key s p == e.0 then (e.0, changed e.1 v) else e))
    (rows-placed changes s p v r xs (sorted-where (λ e. is_owned_by s e && nat_le 0 e.0) es ordered) (own-all changes s es all) placed (own-record s (slot_key s p) r es own there))
