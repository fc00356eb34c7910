-- Rows that are kept go on to say what the slots say.
use Rattle.std.proofs.Common.{◌≡◌, ℕ, ◌+◌, Bool, true, false, cond, List, [], filter, Some, None, Option, Result, Ok, Err, refl, sym, ap, ◌∙◌, subst, arith}
use Rattle.std.specs.Prelude.{◌==◌, ◌&&◌, nat_le, is_some, if◌then◌else◌, IfSome, OnOk, option_map}
use Rattle.std.specs.List.Sorted.{IsStrictlySortedBy}
use Rattle.std.specs.Ordering.{nat_cmp}
use Rattle.std.specs.Map.{keys_of}
use Rattle.std.proofs.lemmas.Bool.{eqb-true, eq-eqb}
use Rattle.std.proofs.lemmas.Bool.Decides.{nat_tests}
use Rattle.hx_ids.specs.declared.SessionId.{SessionId}
use Rattle.hx_ids.specs.declared.PartId.{PartId}
use Rattle.hx_cluster.specs.declared.state.Row.{Row}
use Rattle.hx_store.specs.declared.Record.{Record}
use Rattle.hx_store.specs.Records.{record_at, set_to, created, first_record, owns, is_owned_by, owned_from}
use Rattle.hx_slots.specs.declared.slot.Slot.{Slot}
use Rattle.hx_slots.specs.Slots.{IsPlaced, IsSlot, IsPopped, slot_key, row_of, rows_of}
use Rattle.hx_slots.specs.Index.{Ready, CanPut, one_more, put_in, kept_of, Puts, Keeps}
use Rattle.hx_slots.specs.Mirror.{ready_of, AreMirrored, AreAllSlots, IsNoted}
use Rattle.hx_slots.proofs.Keys.{both, of_part, same_session}
use Rattle.hx_slots.proofs.Entries.{all-weaker, all-at, only_at, value_of, first_passes}
use Rattle.hx_slots.proofs.RowsOf.{EachSlot, at_key, rows-owned}
use Rattle.hx_slots.proofs.Mirrored.{ready-made, ready-unmade, ready-kept, ready-unremoved, can-put, ready-put}

-- what comes of a result, or of none
pub on_ok : {T E : Type 0} (P Q : Type 0) → (P → Q) → (r : Result T E) → OnOk r P → OnOk r Q
on_ok P Q h (Ok x) p = h p
on_ok P Q h (Err e) p = tt

pub is_none : {X : Type 0} (o : Option X) → is_some o ≡ false → o ≡ None
is_none None h = refl
is_none (Some x) h = cc

same : (s u : SessionId) → (s.0 == u.0) ≡ true → s ≡ u
same s u h = same_session s u (eqb-true s.0 u.0 h)

if_some : {X : Type 0} (P Q : X → Type 0) → ((x : X) → P x → Q x) → (o : Option X) → IfSome o P → IfSome o Q
if_some P Q h None p = tt
if_some P Q h (Some x) p = h x p

-- rows that are written through what was lent
pub written : (f : Ready → Ready) (s : SessionId) (kept w : Ready) (es fs now : List (SessionId × Ready)) → es ≡ now → Some kept ≡ kept_of es s → w ≡ f kept
    → ((q : SessionId) → kept_of fs q ≡ cond (s.0 == q.0) (Some w) (kept_of es q)) → Puts s (option_map f (kept_of now s)) now fs
written f s kept w es fs now view there is puts = subst (λ (x : List (SessionId × Ready)). Puts s (option_map f (kept_of x s)) x fs) view here
  where
    here : Puts s (option_map f (kept_of es s)) es fs
    here q = puts q ∙ ap (λ (o : Option Ready). cond (s.0 == q.0) o (kept_of es q)) (ap (λ (x : Ready). Some x) is ∙ ap (option_map f) there)

pub unwritten : (s : SessionId) (kept w : Ready) (es fs now : List (SessionId × Ready)) → es ≡ now → Some kept ≡ kept_of es s → w ≡ kept
    → ((q : SessionId) → kept_of fs q ≡ cond (s.0 == q.0) (Some w) (kept_of es q)) → Keeps now fs
unwritten s kept w es fs now view there is puts = subst (λ (x : List (SessionId × Ready)). Keeps x fs) view here
  where
    one : (q : SessionId) (b : Bool) → (s.0 == q.0) ≡ b → cond b (Some w) (kept_of es q) ≡ kept_of es q
    one q true i = ap (λ (x : Ready). Some x) is ∙ there ∙ ap (kept_of es) (same s q i)
    one q false i = refl

    here : Keeps es fs
    here q = puts q ∙ one q (s.0 == q.0) refl

pub can_put : (p : PartId) (had : Bool) (s : SessionId) (kept : Ready) (es now : List (SessionId × Ready)) → es ≡ now → Some kept ≡ kept_of es s → IfSome (kept_of now s) (CanPut p had) → CanPut p had kept
can_put p had s kept es now view there can =
    subst (λ (o : Option Ready). IfSome o (CanPut p had)) (sym there) (subst (λ (x : List (SessionId × Ready)). IfSome (kept_of x s) (CanPut p had)) (sym view) can)

-- a slot is noted, where there are others
pub noted_added : (s : SessionId) (slots : List (ℕ × Record Slot)) (index now : List (SessionId × Ready)) → AreMirrored slots index → Puts s (option_map one_more (kept_of index s)) index now → IsNoted s slots now
noted_added s slots index now mirrored puts u =
    subst (λ (o : Option Ready). IfSome o (λ kept. kept ≡ (if s.0 == u.0 then one_more (ready_of slots u) else ready_of slots u))) (sym (puts u)) (one (s.0 == u.0) refl)
  where
    mapped : (o : Option Ready) → IfSome o (λ kept. kept ≡ ready_of slots s) → IfSome (option_map one_more o) (λ kept. kept ≡ one_more (ready_of slots s))
    mapped None h = tt
    mapped (Some kept) h = ap one_more h

    one : (b : Bool) → (s.0 == u.0) ≡ b → IfSome (if b then option_map one_more (kept_of index s) else kept_of index u) (λ kept. kept ≡ (if b then one_more (ready_of slots u) else ready_of slots u))
    one true i = subst (λ (x : SessionId). IfSome (option_map one_more (kept_of index s)) (λ kept. kept ≡ one_more (ready_of slots x))) (same s u i) (mapped (kept_of index s) (mirrored s))
    one false i = mirrored u

-- and where it is the first
pub noted_opened : (s : SessionId) (slots : List (ℕ × Record Slot)) (index now : List (SessionId × Ready)) → IsNoted s slots index → owned_from slots s 0 ≡ [] → Puts s (Some (record { slots = 1; rows = [] })) index now → IsNoted s slots now
noted_opened s slots index now noted none puts u =
    subst (λ (o : Option Ready). IfSome o (λ kept. kept ≡ (if s.0 == u.0 then one_more (ready_of slots u) else ready_of slots u))) (sym (puts u)) (one (s.0 == u.0) refl)
  where
    free : ready_of slots s ≡ record { slots = 0; rows = [] }
    free = rw none refl

    one : (b : Bool) → (s.0 == u.0) ≡ b → IfSome (if b then Some (record { slots = 1; rows = [] }) else kept_of index u) (λ kept. kept ≡ (if b then one_more (ready_of slots u) else ready_of slots u))
    one true i = subst (λ (x : SessionId). record { slots = 1; rows = [] } ≡ one_more (ready_of slots x)) (same s u i) (sym (ap one_more free))
    one false i = subst (λ (b : Bool). IfSome (kept_of index u) (λ kept. kept ≡ (if b then one_more (ready_of slots u) else ready_of slots u))) i (noted u)

-- the slot is made
pub mirrored_made : (key : ℕ) (v : Slot) (slots after : List (ℕ × Record Slot)) (index : List (SessionId × Ready)) → v.state ≡ None → IsNoted v.session slots index → after ≡ created slots key (Some v.session) v → AreMirrored after index
mirrored_made key v slots after index bare noted made u =
    if_some (λ kept. kept ≡ (if v.session.0 == u.0 then one_more (ready_of slots u) else ready_of slots u)) (λ kept. kept ≡ ready_of after u) (λ kept h. h ∙ one (v.session.0 == u.0) refl ∙ ap (λ (es : List (ℕ × Record Slot)). ready_of es u) (sym made)) (kept_of index u) (noted u)
  where
    one : (b : Bool) → (v.session.0 == u.0) ≡ b → (if b then one_more (ready_of slots u) else ready_of slots u) ≡ ready_of (created slots key (Some v.session) v) u
    one true i = sym (ready-made u key (first_record (Some v.session) v) slots i bare)
    one false i = sym (ready-unmade u key (first_record (Some v.session) v) slots i)

-- the record of a part's slot, by its value
abbrev FoundAt : ℕ → SessionId → PartId → Slot → List (ℕ × Record Slot) → Type 0
FoundAt key s p slot slots = (r : Record Slot) × (record_at slots key ≡ Some r) × (r.value ≡ slot) × (r.owner ≡ Some s) × (r.value.session ≡ s) × (r.value.part ≡ p)

found_at : (changes key : ℕ) (s : SessionId) (p : PartId) (slot : Slot) (slots : List (ℕ × Record Slot)) → EachSlot changes slots → IsPlaced s p → key ≡ slot_key s p → Some slot ≡ option_map (λ r. r.value) (record_at slots key) → FoundAt key s p slot slots
found_at changes key s p slot slots all placed is there = (found.0, found.1, found.2, is_slot.owner ∙ ap (λ (x : SessionId). Some x) own.0, own.0, own.1)
  where
    found : (r : Record Slot) × (record_at slots key ≡ Some r) × (r.value ≡ slot)
    found = value_of slot (record_at slots key) there

    is_slot : IsSlot changes (slot_key s p, found.0)
    is_slot = subst (λ (k : ℕ). IsSlot changes (k, found.0)) is (all-at (IsSlot changes) key found.0 slots all found.1)

    own : (found.0.value.session ≡ s) × (found.0.value.part ≡ p)
    own = of_part s found.0.value.session p found.0.value.part (sym (at_key changes (slot_key s p, found.0) s p is_slot placed) ∙ eq-eqb (slot_key s p) (slot_key s p) refl)

-- a slot notes a message
pub mirrored_sent : (key : ℕ) (s : SessionId) (p : PartId) (slot v : Slot) (slots after : List (ℕ × Record Slot)) (index : List (SessionId × Ready)) → AreAllSlots slots → IsStrictlySortedBy nat_cmp (keys_of slots) → AreMirrored slots index → IsPlaced s p
    → key ≡ slot_key s p → Some slot ≡ option_map (λ r. r.value) (record_at slots key) → v.session ≡ s → v.part ≡ p → v.state ≡ slot.state → after ≡ set_to slots key v → AreMirrored after index
mirrored_sent key s p slot v slots after index all ordered mirrored placed is there vss vp vs made u =
    if_some (λ kept. kept ≡ ready_of slots u) (λ kept. kept ≡ ready_of after u) (λ kept h. h ∙ sym (ap (λ (es : List (ℕ × Record Slot)). ready_of es u) made ∙ stays)) (kept_of index u) (mirrored u)
  where
    found : FoundAt key s p slot slots
    found = found_at all.0 key s p slot slots all.1 placed is there

    row : row_of v ≡ row_of found.0.value
    row =
        ap row_of
        (λ i. record {
          session = (vss ∙ sym found.4) i;
          part = (vp ∙ sym found.5) i;
          state = (vs ∙ sym (ap (λ (x : Slot). x.state) found.2)) i;
          sent = v.sent;
        })

    stays : ready_of (set_to slots key v) u ≡ ready_of slots u
    stays =
        ready-kept u key v slots
        (all-weaker (λ e. (key == e.0) ≡ true → e.1 ≡ found.0) (λ e. (key == e.0) ≡ true → owns e.1.owner u ≡ true → row_of v ≡ row_of e.1.value) (λ e h i own. row ∙ sym (ap (λ (x : Record Slot). row_of x.value) (h i))) slots
        (only_at (λ x. x ≡ found.0) key slots ordered (subst (λ (o : Option (Record Slot)). IfSome o (λ x. x ≡ found.0)) (sym found.1) refl)))

-- a slot is put at a state
pub can_be_put : (key : ℕ) (s : SessionId) (p : PartId) (slot : Slot) (slots : List (ℕ × Record Slot)) (index : List (SessionId × Ready)) (had : Bool) → AreAllSlots slots → IsStrictlySortedBy nat_cmp (keys_of slots) → AreMirrored slots index → IsPlaced s p
    → key ≡ slot_key s p → Some slot ≡ option_map (λ r. r.value) (record_at slots key) → had ≡ is_some slot.state → IfSome (kept_of index s) (CanPut p had)
can_be_put key s p slot slots index had all ordered mirrored placed is there was =
    if_some (λ kept. kept ≡ ready_of slots s) (CanPut p had) (λ kept h. subst (CanPut p had) (sym h) can) (kept_of index s) (mirrored s)
  where
    found : FoundAt key s p slot slots
    found = found_at all.0 key s p slot slots all.1 placed is there

    can : CanPut p had (ready_of slots s)
    can =
        subst (λ (b : Bool). CanPut p b (ready_of slots s)) (ap (λ (x : Slot). is_some x.state) found.2 ∙ sym was)
        (can-put all.0 s p found.0 slots ordered all.1 placed (rw found.3 (eq-eqb s.0 s.0 refl)) (subst (λ (k : ℕ). record_at slots k ≡ Some found.0) is found.1))

pub mirrored_put : (key : ℕ) (s : SessionId) (p : PartId) (slot v : Slot) (slots after : List (ℕ × Record Slot)) (index now : List (SessionId × Ready)) (had : Bool) (row : Option Row) → AreAllSlots slots → IsStrictlySortedBy nat_cmp (keys_of slots) → AreMirrored slots index
    → IsPlaced s p → key ≡ slot_key s p → Some slot ≡ option_map (λ r. r.value) (record_at slots key) → had ≡ is_some slot.state → row ≡ row_of v → after ≡ set_to slots key v → Puts s (option_map (put_in p had row) (kept_of index s)) index now → AreMirrored after now
mirrored_put key s p slot v slots after index now had row all ordered mirrored placed is there was will made puts u =
    subst (λ (o : Option Ready). IfSome o (λ kept. kept ≡ ready_of after u)) (sym (puts u))
    (subst (λ (es : List (ℕ × Record Slot)). IfSome (if s.0 == u.0 then option_map (put_in p had row) (kept_of index s) else kept_of index u) (λ kept. kept ≡ ready_of es u)) (sym (made ∙ ap (λ (k : ℕ). set_to slots k v) is)) (one (s.0 == u.0) refl))
  where
    new : List (ℕ × Record Slot)
    new = set_to slots (slot_key s p) v

    found : FoundAt key s p slot slots
    found = found_at all.0 key s p slot slots all.1 placed is there

    own : put_in p had row (ready_of slots s) ≡ ready_of new s
    own =
        ap (λ (b : Bool). put_in p b row (ready_of slots s)) (was ∙ ap (λ (x : Slot). is_some x.state) (sym found.2))
        ∙ ap (λ (o : Option Row). put_in p (is_some found.0.value.state) o (ready_of slots s)) will
        ∙ sym (ready-put all.0 s p v found.0 slots ordered all.1 placed (rw found.3 (eq-eqb s.0 s.0 refl)) (subst (λ (k : ℕ). record_at slots k ≡ Some found.0) is found.1))

    mapped : (o : Option Ready) → IfSome o (λ kept. kept ≡ ready_of slots s) → IfSome (option_map (put_in p had row) o) (λ kept. kept ≡ ready_of new s)
    mapped None h = tt
    mapped (Some kept) h = ap (put_in p had row) h ∙ own

    other : (s.0 == u.0) ≡ false → (e : ℕ × Record Slot) → IsSlot all.0 e → (slot_key s p == e.0) ≡ true → owns e.1.owner u ≡ true → row_of v ≡ row_of e.1.value
    other i e is_slot j owned =
        let at = of_part s e.1.value.session p e.1.value.part (sym (at_key all.0 e s p is_slot placed) ∙ j) in
        let is_own : (e.1.value.session.0 == u.0) ≡ true = subst (λ (o : Option SessionId). owns o u ≡ true) is_slot.owner owned in
        let no : true ≡ false = sym (subst (λ (x : SessionId). (x.0 == u.0) ≡ true) at.0 is_own) ∙ i in
        cc

    one : (b : Bool) → (s.0 == u.0) ≡ b → IfSome (if b then option_map (put_in p had row) (kept_of index s) else kept_of index u) (λ kept. kept ≡ ready_of new u)
    one true i = subst (λ (x : SessionId). IfSome (option_map (put_in p had row) (kept_of index s)) (λ kept. kept ≡ ready_of new x)) (same s u i) (mapped (kept_of index s) (mirrored s))
    one false i =
        if_some (λ kept. kept ≡ ready_of slots u) (λ kept. kept ≡ ready_of new u)
        (λ kept h. h ∙ sym (ready-kept u (slot_key s p) v slots (all-weaker (IsSlot all.0) (λ e. (slot_key s p == e.0) ≡ true → owns e.1.owner u ≡ true → row_of v ≡ row_of e.1.value) (other i) slots all.1))) (kept_of index u) (mirrored u)

-- a slot is taken out, of a session whose rows aren't kept
pub mirrored_popped : (s : SessionId) (v : Slot) (slots left : List (ℕ × Record Slot)) (index : List (SessionId × Ready)) → IsStrictlySortedBy nat_cmp (keys_of slots) → IsPopped slots s v left → AreMirrored slots index → kept_of index s ≡ None → AreMirrored left index
mirrored_popped s v slots left index ordered popped mirrored none u = one (s.0 == u.0) refl
  where
    own : owns popped.entry.1.owner s ≡ true
    own = (both (is_owned_by s popped.entry) (nat_le 0 popped.entry.0) (first_passes (λ e. is_owned_by s e && nat_le 0 e.0) popped.entry slots (owned_from slots s (popped.entry.0 + 1)) popped.first)).0

    apart : (o : Option SessionId) → owns o s ≡ true → (s.0 == u.0) ≡ false → owns o u ≡ false
    apart None h i = refl
    apart (Some t) h i = grind (arith, nat_tests, h, i)

    unremoved : (s.0 == u.0) ≡ false → ready_of slots u ≡ ready_of left u
    unremoved i =
        sym (ap (λ (es : List (ℕ × Record Slot)). ready_of es u) popped.rest ∙ ready-unremoved u popped.entry.0 slots (only_at (λ x. owns x.owner u ≡ false) popped.entry.0 slots ordered (rw popped.there (apart popped.entry.1.owner own i))))

    one : (b : Bool) → (s.0 == u.0) ≡ b → IfSome (kept_of index u) (λ kept. kept ≡ ready_of left u)
    one true i = subst (λ (o : Option Ready). IfSome o (λ kept. kept ≡ ready_of left u)) (sym none ∙ ap (kept_of index) (same s u i)) tt
    one false i = if_some (λ kept. kept ≡ ready_of slots u) (λ kept. kept ≡ ready_of left u) (λ kept h. h ∙ unremoved i) (kept_of index u) (mirrored u)

-- the rows that a session reads
pub mirrored_rows : (changes : ℕ) (s : SessionId) (kept : Ready) (slots : List (ℕ × Record Slot)) (index : List (SessionId × Ready)) → EachSlot changes slots → AreMirrored slots index → Some kept ≡ kept_of index s
    → kept.rows ≡ filter (λ r. r.session.0 == s.0) (rows_of slots)
mirrored_rows changes s kept slots index all mirrored there =
    ap (λ (x : Ready). x.rows) (subst (λ (o : Option Ready). IfSome o (λ x. x ≡ ready_of slots s)) (sym there) (mirrored s)) ∙ rows-owned changes s slots all

-- a session's rows are forgotten
pub mirrored_forgotten : (s : SessionId) (slots : List (ℕ × Record Slot)) (index now : List (SessionId × Ready)) → AreMirrored slots index → Puts s None index now → AreMirrored slots now × (kept_of now s ≡ None)
mirrored_forgotten s slots index now mirrored puts = (λ u. subst (λ (o : Option Ready). IfSome o (λ kept. kept ≡ ready_of slots u)) (sym (puts u)) (one u (s.0 == u.0)), puts s ∙ rw (eq-eqb s.0 s.0 refl) refl)
  where
    one : (u : SessionId) (b : Bool) → IfSome (if b then None else kept_of index u) (λ kept. kept ≡ ready_of slots u)
    one u true = tt
    one u false = mirrored u
