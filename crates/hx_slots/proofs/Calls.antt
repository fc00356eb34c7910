-- What calls do to the slots and the messages together.
use Rattle.std.proofs.Common.{◌≡◌, ℕ, ◌<◌, ◌≤◌, ◌+◌, Bool, true, false, not, List, [], ◌∷◌, ◌++◌, map, filter, find, Some, None, Option, Result, Ok, Err, refl, sym, ap, ◌∙◌, subst, arith}
use Rattle.std.specs.Prelude.{if◌then◌else◌, ◌==◌, ◌&&◌, nat_lt, nat_le, IsSome, option_map, MatchOption, OnErr, length}
use Rattle.std.specs.List.{list_any, list_all, filter_map, cons_option, AllByRecursion}
use Rattle.std.specs.List.Sorted.{IsStrictlySortedBy}
use Rattle.std.specs.Ordering.{nat_cmp}
use Rattle.std.specs.Map.{keys_of, lookup}
use Rattle.std.proofs.lemmas.Bool.{eqb-true}
use Rattle.std.proofs.lemmas.Bool.Decides.{nat_tests}
use Rattle.hx_ids.specs.declared.SessionId.{SessionId}
use Rattle.hx_ids.specs.declared.StateId.{StateId}
use Rattle.hx_ids.specs.declared.MsgId.{MsgId}
use Rattle.hx_ids.specs.declared.PartId.{PartId}
use Rattle.hx_cluster.specs.declared.state.Row.{Row}
use Rattle.hx_cluster.specs.declared.state.Message.{Message}
use Rattle.hx_cluster.specs.Ends.{is_row, message_of, part_eq}
use Rattle.hx_cluster.specs.Messages.{has_id, as_written, row_put}
use Rattle.hx_cluster.specs.Weight.{one_unless}
use Rattle.hx_store.specs.declared.Record.{Record}
use Rattle.hx_store.specs.Records.{record_at, is_before, set_to, created, first_record, deleted, owned_from, owns, is_owned_by}
use Rattle.hx_store.specs.Refusals.{CanChange}
use Rattle.hx_safe.proofs.Counting.{find-passes}
use Rattle.hx_slots.specs.declared.slot.Slot.{Slot}
use Rattle.hx_slots.specs.Kept.{Kept}
use Rattle.hx_slots.specs.Slots.{IsPlaced, IsSlot, IsSlotOf, IsKept, AreSlots, IsPopped, slot_key, row_with, row_of, rows_of, values_of, owned_values, messages_of, sent_at, sent_last, put_at, unwritten_in}
use Rattle.hx_slots.proofs.Keys.{both}
use Rattle.hx_slots.proofs.Entries.{any-filter, all-insert, all-filter, all-at, all-set, only_at, some_is, value_of, entry_of, find-first, first_of, first_passes, filter-none, none_any}
use Rattle.hx_slots.proofs.RowsOf.{EachSlot, slots-sent, slots-put, rows-taken, rows-untaken, rows-owned}
use Rattle.hx_slots.proofs.Mail.{EachKept, kept-sent, sent-here, kept-put, kept-removed, kept-taken, kept-written, messages-sent, messages-marked, messages-removed, mail-owned, found_at, unwritten-append, unwritten-filter, unwritten-taken, unwritten-written}

-- versions have room
pub slot_room : (slots : List (ℕ × Record Slot)) (mail : List (ℕ × Record Message)) (changes paid k : ℕ) → AreSlots slots mail changes paid → CanChange (record_at slots k)
slot_room slots mail changes paid k are = one (record_at slots k) refl
  where
    one : (o : Option (Record Slot)) → record_at slots k ≡ o → CanChange o
    one None h = tt
    one (Some r) h =
        let is : IsSlot changes (k, r) = all-at (IsSlot changes) k r slots are.each_slot h in
        let v : r.version ≤ changes + 1 = is.version in
        let w : changes + unwritten_in (messages_of mail) ≤ paid = are.room in
        let f : paid ≤ 4611686018427387904 = are.fits in
        let n : r.version < 18446744073709551615 = omega arith in n

pub mail_room : (slots : List (ℕ × Record Slot)) (mail : List (ℕ × Record Message)) (k : ℕ) → EachKept slots mail → CanChange (record_at mail k)
mail_room slots mail k all = one (record_at mail k) refl
  where
    one : (o : Option (Record Message)) → record_at mail k ≡ o → CanChange o
    one None h = tt
    one (Some r) h =
        let is : IsKept slots (k, r) = all-at (IsKept slots) k r mail all h in
        let v : r.version + one_unless r.value.taken + one_unless r.value.written ≤ 3 = is.marks in
        let n : r.version < 18446744073709551615 = omega arith in n

-- what a message tells of its slot
pub message_placed : (slots : List (ℕ × Record Slot)) (m : Message) (p : Message → Bool) (mail : List (ℕ × Record Message)) → EachKept slots mail → find p (messages_of mail) ≡ Some m → IsPlaced m.session m.part
message_placed slots m p mail all found =
    let e = entry_of (IsKept slots) p m mail all found in
    subst (λ (x : Message). IsPlaced x.session x.part) e.2 e.1.placed

pub message_sent : (slots : List (ℕ × Record Slot)) (m : Message) (p : Message → Bool) (mail : List (ℕ × Record Message)) → EachKept slots mail → find p (messages_of mail) ≡ Some m → sent_last (record_at slots (slot_key m.session m.part)) ≡ Some m.id
message_sent slots m p mail all found =
    let e = entry_of (IsKept slots) p m mail all found in
    subst (λ (x : Message). sent_last (record_at slots (slot_key x.session x.part)) ≡ Some x.id) e.2 e.1.slot

pub message_slot : (slots : List (ℕ × Record Slot)) (m : Message) (p : Message → Bool) (mail : List (ℕ × Record Message)) → EachKept slots mail → find p (messages_of mail) ≡ Some m → IsSome (record_at slots (slot_key m.session m.part))
message_slot slots m p mail all found = one (record_at slots (slot_key m.session m.part)) (message_sent slots m p mail all found)
  where
    one : (o : Option (Record Slot)) → sent_last o ≡ Some m.id → IsSome o
    one None h = cc
    one (Some r) h = refl

-- a message is sent: the slots, before the message is there
pub sent_err : (slots after : List (ℕ × Record Slot)) (mail : List (ℕ × Record Message)) (changes paid : ℕ) (s : SessionId) (p : PartId) (id : MsgId) → IsStrictlySortedBy nat_cmp (keys_of slots) → AreSlots slots mail changes paid
    → IsPlaced s p → message_of (messages_of mail) s p ≡ None → paid ≤ 4611686018427387902 → after ≡ sent_at slots (slot_key s p) s p id → AreSlots after mail (changes + 1) (paid + 2)
sent_err slots after mail changes paid s p id ordered are placed idle low is =
    let w : changes + unwritten_in (messages_of mail) ≤ paid = are.room in
    rw is (record {
      each_slot = (slots-sent changes s p id slots ordered are.each_slot placed).0;
      each_message = kept-sent s p id slots mail are.each_message placed idle;
      room = omega arith;
      fits = omega arith;
    })

pub sent_rows : (slots after : List (ℕ × Record Slot)) (mail : List (ℕ × Record Message)) (changes paid : ℕ) (s : SessionId) (p : PartId) (id : MsgId) → IsStrictlySortedBy nat_cmp (keys_of slots) → AreSlots slots mail changes paid
    → IsPlaced s p → after ≡ sent_at slots (slot_key s p) s p id → rows_of after ≡ rows_of slots
sent_rows slots after mail changes paid s p id ordered are placed is = rw is (slots-sent changes s p id slots ordered are.each_slot placed).1

-- and with it
pub sent_mail : (slots : List (ℕ × Record Slot)) (mail later : List (ℕ × Record Message)) (m : Message) → EachKept slots mail → list_all (λ x. nat_lt x.id.0 m.id.0) (messages_of mail) ≡ true → later ≡ created mail m.id.0 (Some m.session) m
    → messages_of later ≡ messages_of mail ++ m ∷ []
sent_mail slots mail later m all last is = rw is (messages-sent slots m.id.0 (first_record (Some m.session) m) mail all last)

pub sent_ok : (slots after : List (ℕ × Record Slot)) (mail later : List (ℕ × Record Message)) (changes paid : ℕ) (m : Message) → IsStrictlySortedBy nat_cmp (keys_of slots) → AreSlots slots mail changes paid
    → IsPlaced m.session m.part → message_of (messages_of mail) m.session m.part ≡ None → list_all (λ x. nat_lt x.id.0 m.id.0) (messages_of mail) ≡ true → m.taken ≡ false → m.written ≡ false → paid ≤ 4611686018427387902 → after ≡ sent_at slots (slot_key m.session m.part) m.session m.part m.id → later ≡ created mail m.id.0 (Some m.session) m → AreSlots after later (changes + 1) (paid + 2)
sent_ok slots after mail later changes paid m ordered are placed idle last taken written low is made =
    let before = sent_err slots after mail changes paid m.session m.part m.id ordered are placed idle low is in
    let w : changes + unwritten_in (messages_of mail) ≤ paid = are.room in
    let counted : unwritten_in (messages_of later) ≡ unwritten_in (messages_of mail) + one_unless m.written = ap unwritten_in (sent_mail slots mail later m are.each_message last made) ∙ unwritten-append (messages_of mail) m in
    let one : one_unless m.written ≡ 1 = rw written refl in
    let two : one_unless m.taken ≡ 1 = rw taken refl in
    let named : sent_last (record_at after (slot_key m.session m.part)) ≡ Some m.id = rw is (sent-here m.session m.part m.id slots) in
    let here : IsKept after (m.id.0, first_record (Some m.session) m) = record { key = refl; owner = refl; placed = placed; slot = named; marks = omega arith } in
    let kept : EachKept after (created mail m.id.0 (Some m.session) m) = all-insert (IsKept after) is_before (m.id.0, first_record (Some m.session) m) mail before.each_message here in
    record {
      each_slot = before.each_slot;
      each_message = subst (λ (x : List (ℕ × Record Message)). EachKept after x) (sym made) kept;
      room = omega arith;
      fits = omega arith;
    }

-- the only message of its number
only_own : (slots : List (ℕ × Record Slot)) (mail : List (ℕ × Record Message)) (m : Message) → IsStrictlySortedBy nat_cmp (keys_of mail) → EachKept slots mail → find (has_id m.session m.id) (messages_of mail) ≡ Some m
    → AllByRecursion (λ e. (m.id.0 == e.0) ≡ true → e.1.value ≡ m) mail
only_own slots mail m ordered all found =
    let r = found_at slots m.session m.id m mail ordered all found in
    only_at (λ (x : Record Message). x.value ≡ m) m.id.0 mail ordered (rw r.1 r.2)

-- a pending message is marked
pub marked_mail : (slots : List (ℕ × Record Slot)) (mail after : List (ℕ × Record Message)) (seen : List Message) (mark : Message → Message) (m : Message) → IsStrictlySortedBy nat_cmp (keys_of mail) → EachKept slots mail
    → messages_of mail ≡ seen → find (has_id m.session m.id) seen ≡ Some m → after ≡ set_to mail m.id.0 (mark m) → messages_of after ≡ map (λ x. if has_id m.session m.id x then mark x else x) seen
marked_mail slots mail after seen mark m ordered all view found is =
    let own = only_own slots mail m ordered all (ap (λ (ms : List Message). find (has_id m.session m.id) ms) view ∙ found) in
    rw (is, messages-marked slots mark m (mark m) mail all own refl, view) refl

-- a message is taken
pub taken_kept : (slots : List (ℕ × Record Slot)) (mail after : List (ℕ × Record Message)) (changes paid : ℕ) (m : Message) → IsStrictlySortedBy nat_cmp (keys_of mail) → AreSlots slots mail changes paid
    → find (has_id m.session m.id) (messages_of mail) ≡ Some m → m.taken ≡ false → after ≡ set_to mail m.id.0 (record m { taken = true }) → AreSlots slots after changes paid
taken_kept slots mail after changes paid m ordered are found free is =
    let r = found_at slots m.session m.id m mail ordered are.each_message found in
    let kept : EachKept slots (set_to mail m.id.0 (record m { taken = true })) =
    all-set (IsKept slots) m.id.0 (record m { taken = true }) r.0 mail ordered are.each_message r.1 (kept-taken slots m.id.0 r.0 m (all-at (IsKept slots) m.id.0 r.0 mail are.each_message r.1) r.2 free)
    in
    let counted : unwritten_in (messages_of after) ≡ unwritten_in (messages_of mail) = ap unwritten_in (marked_mail slots mail after (messages_of mail) (λ x. record x { taken = true }) m ordered are.each_message refl found is) ∙ unwritten-taken m.session m.id (messages_of mail) in
    let w : changes + unwritten_in (messages_of mail) ≤ paid = are.room in
    record { each_slot = are.each_slot; each_message = subst (λ (x : List (ℕ × Record Message)). EachKept slots x) (sym is) kept; room = omega arith; fits = are.fits }

-- an outcome is written
-- the slot's record
slot_record : (o : Option (Record Slot)) → IsSome o → (r : Record Slot) × (o ≡ Some r)
slot_record None h = cc
slot_record (Some r) h = (r, refl)

pub written_rows : (slots after : List (ℕ × Record Slot)) (mail : List (ℕ × Record Message)) (changes : ℕ) (m : Message) (t : StateId) → IsStrictlySortedBy nat_cmp (keys_of slots) → EachSlot changes slots → EachKept slots mail
    → find (has_id m.session m.id) (messages_of mail) ≡ Some m → after ≡ put_at slots (slot_key m.session m.part) m.session m.part t
    → EachSlot (changes + 1) after × (rows_of after ≡ row_put (rows_of slots) m.session m.part t)
written_rows slots after mail changes m t ordered each all found is =
    let r = slot_record (record_at slots (slot_key m.session m.part)) (message_slot slots m (has_id m.session m.id) mail all found) in
    rw is (slots-put changes m.session m.part t r.0 slots ordered each (message_placed slots m (has_id m.session m.id) mail all found) r.1)

pub written_kept : (slots after : List (ℕ × Record Slot)) (mail later : List (ℕ × Record Message)) (changes paid : ℕ) (m : Message) (t : StateId) → IsStrictlySortedBy nat_cmp (keys_of slots) → IsStrictlySortedBy nat_cmp (keys_of mail)
    → AreSlots slots mail changes paid → find (has_id m.session m.id) (messages_of mail) ≡ Some m → m.written ≡ false → after ≡ put_at slots (slot_key m.session m.part) m.session m.part t
    → later ≡ set_to mail m.id.0 (record m { written = true }) → AreSlots after later (changes + 1) paid
written_kept slots after mail later changes paid m t ordered in_order are found free is made =
    let r = found_at slots m.session m.id m mail in_order are.each_message found in
    let kept : EachKept slots (set_to mail m.id.0 (record m { written = true })) =
    all-set (IsKept slots) m.id.0 (record m { written = true }) r.0 mail in_order are.each_message r.1 (kept-written slots m.id.0 r.0 m (all-at (IsKept slots) m.id.0 r.0 mail are.each_message r.1) r.2 free)
    in
    let along : EachKept slots later = subst (λ (x : List (ℕ × Record Message)). EachKept slots x) (sym made) kept in
    let counted : unwritten_in (messages_of later) ≡ unwritten_in (map (as_written m.session m.id) (messages_of mail)) = ap unwritten_in (marked_mail slots mail later (messages_of mail) (λ x. record x { written = true }) m in_order are.each_message refl found made) in
    let less = unwritten-written m.session m.id (messages_of mail) m found free in
    let w : changes + unwritten_in (messages_of mail) ≤ paid = are.room in
    record {
      each_slot = (written_rows slots after mail changes m t ordered are.each_slot are.each_message found is).0;
      each_message = subst (λ (x : List (ℕ × Record Slot)). EachKept x later) (sym is) (kept-put m.session m.part t slots later along);
      room = omega (arith, less);
      fits = are.fits;
    }

-- a message is removed
pub removed_mail : (slots : List (ℕ × Record Slot)) (mail after : List (ℕ × Record Message)) (s : SessionId) (id : MsgId) (m : Message) → IsStrictlySortedBy nat_cmp (keys_of mail) → EachKept slots mail
    → Some m ≡ option_map (λ r. r.value) (record_at mail id.0) → (m.session.0 == s.0) ≡ true → after ≡ deleted mail id.0 → messages_of after ≡ filter (λ x. not (has_id s id x)) (messages_of mail)
removed_mail slots mail after s id m ordered all there own is =
    let r = value_of m (record_at mail id.0) there in
    let here : (r.0.value.session.0 == s.0) ≡ true = ap (λ (x : Message). x.session.0 == s.0) r.2 ∙ own in
    rw is (messages-removed slots s id.0 mail all (only_at (λ (x : Record Message). (x.value.session.0 == s.0) ≡ true) id.0 mail ordered (rw r.1 here)))

pub removed_kept : (slots : List (ℕ × Record Slot)) (mail after : List (ℕ × Record Message)) (changes paid k : ℕ) (p : Message → Bool) → AreSlots slots mail changes paid → after ≡ deleted mail k → messages_of after ≡ filter p (messages_of mail)
    → AreSlots slots after changes paid
removed_kept slots mail after changes paid k p are is same =
    let counted : unwritten_in (messages_of after) ≡ unwritten_in (filter p (messages_of mail)) = ap unwritten_in same in
    let less = unwritten-filter p (messages_of mail) in
    let w : changes + unwritten_in (messages_of mail) ≤ paid = are.room in
    record {
      each_slot = are.each_slot;
      each_message = subst (λ (x : List (ℕ × Record Message)). EachKept slots x) (sym is) (all-filter (IsKept slots) (λ e. not (k == e.0)) mail are.each_message);
      room = omega (arith, less);
      fits = are.fits;
    }

-- where none is found, a filter keeps all
pub unremoved : (p : Message → Bool) (ms : List Message) → find p ms ≡ None → ms ≡ filter (λ x. not (p x)) ms
unremoved p ms none = sym (filter-none p ms (none_any p ms none))

-- a session's first message is popped
abbrev IsFirstMessage : SessionId → List Message → List Message → Option Message → Type 0
IsFirstMessage s ms left o = (o ≡ find (λ m. m.session.0 == s.0) ms) × MatchOption o (left ≡ ms) (λ m. left ≡ filter (λ x. not (has_id s m.id x)) ms)

pub popped_mail : (slots : List (ℕ × Record Slot)) (mail after : List (ℕ × Record Message)) (changes paid : ℕ) (s : SessionId) (o : Option Message) → IsStrictlySortedBy nat_cmp (keys_of mail) → AreSlots slots mail changes paid
    → MatchOption o ((owned_from mail s 0 ≡ []) × (after ≡ mail)) (λ v. IsPopped mail s v after) → AreSlots slots after changes paid × IsFirstMessage s (messages_of mail) (messages_of after) o
popped_mail slots mail after changes paid s None ordered are is =
    let first : find (λ m. m.session.0 == s.0) (messages_of mail) ≡ None = find-first (λ m. m.session.0 == s.0) (messages_of mail) ∙ ap first_of (sym (mail-owned slots s mail are.each_message) ∙ ap (λ (x : List (ℕ × Record Message)). values_of x) is.0) in
    (subst (λ (x : List (ℕ × Record Message)). AreSlots slots x changes paid) (sym is.1) are, (sym first, ap (λ (x : List (ℕ × Record Message)). messages_of x) is.1))
popped_mail slots mail after changes paid s (Some m) ordered are is =
    let e = is.entry in
    let listed : filter (λ x. x.session.0 == s.0) (messages_of mail) ≡ e.1.value ∷ owned_values mail s (e.0 + 1) = sym (mail-owned slots s mail are.each_message) ∙ ap (λ (x : List (ℕ × Record Message)). values_of x) is.first in
    let found : find (λ x. x.session.0 == s.0) (messages_of mail) ≡ Some e.1.value = find-first (λ x. x.session.0 == s.0) (messages_of mail) ∙ ap first_of listed in
    let own : (e.1.value.session.0 == s.0) ≡ true = find-passes (λ x. x.session.0 == s.0) (messages_of mail) e.1.value found in
    let kept : IsKept slots e = all-at (IsKept slots) e.0 e.1 mail are.each_message is.there in
    let there : Some e.1.value ≡ option_map (λ r. r.value) (record_at mail e.1.value.id.0) = sym (ap (λ (k : ℕ). option_map (λ r. r.value) (record_at mail k)) (sym kept.key) ∙ ap (λ (x : Option (Record Message)). option_map (λ r. r.value) x) is.there) in
    let at : after ≡ deleted mail e.1.value.id.0 = is.rest ∙ ap (λ (k : ℕ). deleted mail k) kept.key in
    let left = removed_mail slots mail after s e.1.value.id e.1.value ordered are.each_message there own at in
    let IsFirst : Message → Type 0 = λ x. IsFirstMessage s (messages_of mail) (messages_of after) (Some x) in
    (removed_kept slots mail after changes paid e.1.value.id.0 (λ x. not (has_id s e.1.value.id x)) are at left, subst IsFirst is.value (sym found, left))

-- a session's first slot is popped, where the session has no messages
own_entry : (changes : ℕ) (slots : List (ℕ × Record Slot)) (s : SessionId) (e : ℕ × Record Slot) (rest : List (ℕ × Record Slot)) → IsSlot changes e → owned_from slots s 0 ≡ e ∷ rest → (e.1.value.session.0 == s.0) ≡ true
own_entry changes slots s e rest is first =
    let passes = first_passes (λ x. is_owned_by s x && nat_le 0 x.0) e slots rest first in
    let owned : is_owned_by s e ≡ true = (both (is_owned_by s e) (nat_le 0 e.0) passes).0 in
    ap (λ o. owns o s) (sym is.owner) ∙ owned

pub popped_kept : (slots after : List (ℕ × Record Slot)) (mail : List (ℕ × Record Message)) (changes paid : ℕ) (s : SessionId) (v : Slot) → AreSlots slots mail changes paid → find (λ m. m.session.0 == s.0) (messages_of mail) ≡ None
    → IsPopped slots s v after → AreSlots after mail changes paid
popped_kept slots after mail changes paid s v are none is =
    let e = is.entry in
    let slot : IsSlot changes e = all-at (IsSlot changes) e.0 e.1 slots are.each_slot is.there in
    let same : e.1.value.session.0 ≡ s.0 = eqb-true e.1.value.session.0 s.0 (own_entry changes slots s e (owned_from slots s (e.0 + 1)) slot is.first) in
    let free : find (λ m. m.session.0 == e.1.value.session.0) (messages_of mail) ≡ None = subst (λ (n : ℕ). find (λ m. m.session.0 == n) (messages_of mail) ≡ None) (sym same) none in
    let at : after ≡ deleted slots (slot_key e.1.value.session e.1.value.part) = is.rest ∙ ap (λ (k : ℕ). deleted slots k) slot.key in
    rw at (record {
      each_slot = all-filter (IsSlot changes) (λ x. not (slot_key e.1.value.session e.1.value.part == x.0)) slots are.each_slot;
      each_message = kept-removed e.1.value.session e.1.value.part slots mail are.each_message slot.placed free;
      room = are.room;
      fits = are.fits;
    })

-- none is left
pub popped_end : (changes : ℕ) (slots : List (ℕ × Record Slot)) (s : SessionId) → EachSlot changes slots → owned_from slots s 0 ≡ [] → find (λ r. r.session.0 == s.0) (rows_of slots) ≡ None
popped_end changes slots s all none =
    find-first (λ r. r.session.0 == s.0) (rows_of slots) ∙ ap first_of (sym (rows-owned changes s slots all) ∙ ap (λ (x : List (ℕ × Record Slot)). filter_map row_of (values_of x)) none)

-- it has no row
pub popped_bare : (changes : ℕ) (slots after : List (ℕ × Record Slot)) (s : SessionId) (v : Slot) → IsStrictlySortedBy nat_cmp (keys_of slots) → EachSlot changes slots → IsPopped slots s v after → row_of v ≡ None → rows_of after ≡ rows_of slots
popped_bare changes slots after s v ordered all is bare =
    let e = is.entry in
    let free : e.1.value.state ≡ None = ap (λ (x : Slot). x.state) is.value ∙ stateless v.state bare in
    ap (λ (x : List (ℕ × Record Slot)). rows_of x) is.rest ∙ rows-untaken changes e.0 e.1 slots ordered all is.there free
  where
    stateless : (o : Option StateId) → row_with v o ≡ None → o ≡ None
    stateless None h = refl
    stateless (Some t) h = cc

-- or this one
pub popped_row : (changes : ℕ) (slots after : List (ℕ × Record Slot)) (s : SessionId) (v : Slot) (row : Row) → EachSlot changes slots → IsPopped slots s v after → row_of v ≡ Some row
    → (find (λ r. r.session.0 == s.0) (rows_of slots) ≡ Some row) × (rows_of after ≡ filter (λ x. not (is_row s row.part x)) (rows_of slots))
popped_row changes slots after s v row all is has =
    let e = is.entry in
    let slot : IsSlot changes e = all-at (IsSlot changes) e.0 e.1 slots all is.there in
    let same : e.1.value.session.0 ≡ s.0 = eqb-true e.1.value.session.0 s.0 (own_entry changes slots s e (owned_from slots s (e.0 + 1)) slot is.first) in
    let its : row_of e.1.value ≡ Some row = ap (λ (x : Slot). row_of x) is.value ∙ has in
    let listed : filter (λ r. r.session.0 == s.0) (rows_of slots) ≡ cons_option (row_of e.1.value) (filter_map row_of (owned_values slots s (e.0 + 1))) =
    sym (rows-owned changes s slots all) ∙ ap (λ (x : List (ℕ × Record Slot)). filter_map row_of (values_of x)) is.first
    in
    let part : e.1.value.part ≡ row.part = parted e.1.value.state its in
    let left : rows_of after ≡ filter (λ x. not (is_row e.1.value.session e.1.value.part x)) (rows_of slots) = ap (λ (x : List (ℕ × Record Slot)). rows_of x) is.rest ∙ rows-taken changes e.0 e.1 slots all is.there in (
      find-first (λ r. r.session.0 == s.0) (rows_of slots) ∙ ap first_of listed ∙ rw its refl,
      subst (λ (q : PartId). rows_of after ≡ filter (λ x. not (is_row s q x)) (rows_of slots)) part (subst (λ (n : ℕ). rows_of after ≡ filter (λ x. not ((x.session.0 == n) && part_eq x.part e.1.value.part)) (rows_of slots)) same left),
    )
  where
    parted : (o : Option StateId) → row_with is.entry.1.value o ≡ Some row → is.entry.1.value.part ≡ row.part
    parted None h = cc
    parted (Some t) h = ap (λ (x : Row). x.part) (some_is _ row h)

-- the pending message of a part, by what its slot names
pub sent_of : (slots : List (ℕ × Record Slot)) (s : SessionId) (p : PartId) (slot : Slot) → IsSlotOf slots s p slot → sent_last (record_at slots (slot_key s p)) ≡ slot.sent
sent_of slots s p slot is = let r = value_of slot (record_at slots (slot_key s p)) (sym is.there) in rw r.1 (ap (λ (x : Slot). x.sent) r.2)

-- one slot less
length-filter-le : {X : Type 0} (p : X → Bool) (xs : List X) → length (filter p xs) ≤ length xs
length-filter-le p [] = omega arith
length-filter-le p (x ∷ xs) = grind (arith, length-filter-le p xs)

length-filter : {X : Type 0} (key : ℕ) (x : X) (es : List (ℕ × X)) → lookup (λ k. key == k) es ≡ Some x → length (filter (λ e. not (key == e.0)) es) < length es
length-filter key x [] is = cc
length-filter key x (e ∷ es) is = grind (arith, nat_tests, length-filter key x es, length-filter-le (λ y. not (key == y.0)) es)

pub popped_less : (slots after : List (ℕ × Record Slot)) (s : SessionId) (v : Slot) → IsPopped slots s v after → length after < length slots
popped_less slots after s v is = rw is.rest (length-filter is.entry.0 is.entry.1 slots is.there)

-- the rows and messages of a resource that a session has
pub holds_rows : (changes : ℕ) (s : SessionId) (k : ℕ) (slots : List (ℕ × Record Slot)) → EachSlot changes slots
    → list_any (λ r. r.part.resource.0 == k) (filter_map row_of (owned_values slots s 0)) ≡ list_any (λ r. (r.part.resource.0 == k) && (r.session.0 == s.0)) (rows_of slots)
holds_rows changes s k slots all = ap (λ (rs : List Row). list_any (λ r. r.part.resource.0 == k) rs) (rows-owned changes s slots all) ∙ any-filter (λ r. r.part.resource.0 == k) (λ r. r.session.0 == s.0) (rows_of slots)

pub holds_mail : (slots : List (ℕ × Record Slot)) (s : SessionId) (k : ℕ) (mail : List (ℕ × Record Message)) → EachKept slots mail
    → list_any (λ m. m.part.resource.0 == k) (owned_values mail s 0) ≡ list_any (λ m. (m.part.resource.0 == k) && (m.session.0 == s.0)) (messages_of mail)
holds_mail slots s k mail all = ap (λ (ms : List Message). list_any (λ m. m.part.resource.0 == k) ms) (mail-owned slots s mail all) ∙ any-filter (λ m. m.part.resource.0 == k) (λ m. m.session.0 == s.0) (messages_of mail)

-- what contracts see is the same where rows and messages are
abbrev kept_of : List Row → List Message → Kept
kept_of rows mail = record { rows = rows; mail = mail }

pub same_kept : (rows others : List Row) (mail letters : List Message) → rows ≡ others → mail ≡ letters → kept_of rows mail ≡ kept_of others letters
same_kept rows others mail letters h k = λ i. record { rows = h i; mail = k i }

pub on_err : {T E P : Type 0} (r : Result T E) → P → OnErr r P
on_err (Ok x) p = tt
on_err (Err e) p = p
