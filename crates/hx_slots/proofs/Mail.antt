-- The messages of records, as the records change, and the slots that name them.
use Rattle.std.proofs.Common.{◌≡◌, ℕ, ◌≤◌, ◌+◌, Bool, true, false, cond, not, List, [], ◌∷◌, ◌++◌, map, filter, find, Some, None, Option, refl, sym, ap, ◌∙◌, subst, arith}
use Rattle.std.specs.Prelude.{◌==◌, ◌&&◌, nat_lt, nat_le, if◌then◌else◌, option_map, IsSome}
use Rattle.std.specs.List.{list_all, AllByRecursion}
use Rattle.std.specs.List.Sorted.{IsStrictlySortedBy}
use Rattle.std.specs.Ordering.{nat_cmp}
use Rattle.std.specs.Map.{keys_of}
use Rattle.std.proofs.lemmas.Bool.{eqb-true}
use Rattle.std.proofs.lemmas.Bool.Decides.{nat_tests}
use Rattle.std.proofs.lemmas.Map.Keys.{sorted_tail, IsDistinct-from_sorted}
use Rattle.hx_lists.specs.Lists.{insert_by}
use Rattle.hx_ids.specs.declared.SessionId.{SessionId}
use Rattle.hx_ids.specs.declared.StateId.{StateId}
use Rattle.hx_ids.specs.declared.MsgId.{MsgId}
use Rattle.hx_ids.specs.declared.PartId.{PartId}
use Rattle.hx_cluster.specs.declared.state.Message.{Message}
use Rattle.hx_cluster.specs.Ends.{is_message, message_of, part_eq}
use Rattle.hx_cluster.specs.Messages.{has_id, as_taken, as_written}
use Rattle.hx_cluster.specs.Weight.{one_unless}
use Rattle.hx_store.specs.declared.Record.{Record}
use Rattle.hx_store.specs.Records.{record_at, is_before, set_to, changed, first_record, deleted}
use Rattle.hx_store.proofs.Entries.{absent-past_head, lookup-insert_by, lookup-map, lookup-filter}
use Rattle.hx_slots.specs.declared.slot.Slot.{Slot}
use Rattle.hx_slots.specs.Slots.{IsPlaced, IsKept, slot_key, owned_values, messages_of, slot_with, state_put, sent_at, sent_over, sent_last, put_at, unwritten_in, of_replica, by_sent}
use Rattle.hx_slots.proofs.Keys.{key_same, both, and_false, eq_turned, of_part}
use Rattle.hx_slots.proofs.Entries.{all-also, all-weaker, some_is, value_of, none_found}

-- what holds of all messages
abbrev pub EachKept : List (ℕ × Record Slot) → List (ℕ × Record Message) → Type 0
EachKept slots mail = AllByRecursion (IsKept slots) mail

same_key : (k : ℕ) → (k == k) ≡ true
same_key k = grind (arith, nat_tests)

-- the message that the slot of another message's replica was sent last
abbrev sent_for : List (ℕ × Record Slot) → ℕ × Record Message → Option MsgId
sent_for slots e = sent_last (record_at slots (slot_key e.1.value.session e.1.value.part))

kept-along : (slots after : List (ℕ × Record Slot)) (mail : List (ℕ × Record Message)) → EachKept slots mail → AllByRecursion (λ e. sent_for after e ≡ sent_for slots e) mail → EachKept after mail
kept-along slots after mail all same = all-also (IsKept slots) (λ e. sent_for after e ≡ sent_for slots e) (IsKept after) one mail all same
  where
    one : (e : ℕ × Record Message) → IsKept slots e → sent_for after e ≡ sent_for slots e → IsKept after e
    one e is h = record { key = is.key; owner = is.owner; placed = is.placed; slot = h ∙ is.slot; marks = is.marks }

-- where a message was sent, the slot names it, and the others what they did
sent-other : (s : SessionId) (p : PartId) (id : MsgId) (q : ℕ) (es : List (ℕ × Record Slot)) → (slot_key s p == q) ≡ false → record_at (sent_at es (slot_key s p) s p id) q ≡ record_at es q
sent-other s p id q es other = one (record_at es (slot_key s p))
  where
    one : (o : Option (Record Slot)) → record_at (sent_over es (slot_key s p) s p id o) q ≡ record_at es q
    one None = lookup-insert_by (slot_key s p) (first_record (Some s) (slot_with s p None (Some id))) q es ∙ rw other refl
    one (Some r) = lookup-map (slot_key s p) (λ x. changed x (slot_with s p r.value.state (Some id))) q es ∙ rw other refl

pub sent-here : (s : SessionId) (p : PartId) (id : MsgId) (es : List (ℕ × Record Slot)) → sent_last (record_at (sent_at es (slot_key s p) s p id) (slot_key s p)) ≡ Some id
sent-here s p id es = one (record_at es (slot_key s p)) refl
  where
    one : (o : Option (Record Slot)) → record_at es (slot_key s p) ≡ o → sent_last (record_at (sent_over es (slot_key s p) s p id o) (slot_key s p)) ≡ Some id
    one None h = rw (lookup-insert_by (slot_key s p) (first_record (Some s) (slot_with s p None (Some id))) (slot_key s p) es, same_key (slot_key s p)) refl
    one (Some r) h = rw (lookup-map (slot_key s p) (λ x. changed x (slot_with s p r.value.state (Some id))) (slot_key s p) es, same_key (slot_key s p), h) refl

pub kept-sent : (s : SessionId) (p : PartId) (id : MsgId) (es : List (ℕ × Record Slot)) (mail : List (ℕ × Record Message)) → EachKept es mail → IsPlaced s p → message_of (messages_of mail) s p ≡ None
    → EachKept (sent_at es (slot_key s p) s p id) mail
kept-sent s p id es mail all placed idle =
    kept-along es (sent_at es (slot_key s p) s p id) mail all
    (all-also (IsKept es) (λ e. is_message s p e.1.value ≡ false) (λ e. sent_for (sent_at es (slot_key s p) s p id) e ≡ sent_for es e) one mail all (none_found (is_message s p) mail idle))
  where
    one : (e : ℕ × Record Message) → IsKept es e → is_message s p e.1.value ≡ false → sent_for (sent_at es (slot_key s p) s p id) e ≡ sent_for es e
    one e is other = ap sent_last (sent-other s p id (slot_key e.1.value.session e.1.value.part) es (key_same e.1.value.session s e.1.value.part p is.placed placed ∙ other))

-- a put keeps what slots name
put-same : (s : SessionId) (p : PartId) (t : StateId) (q : ℕ) (es : List (ℕ × Record Slot)) → sent_last (record_at (put_at es (slot_key s p) s p t) q) ≡ sent_last (record_at es q)
put-same s p t q es = ap sent_last (lookup-map (slot_key s p) (λ x. changed x (slot_with s p (state_put t) (sent_last (record_at es (slot_key s p))))) q es) ∙ one (slot_key s p == q) refl
  where
    two : (o : Option (Record Slot)) → sent_last (option_map (λ x. changed x (slot_with s p (state_put t) (sent_last o))) o) ≡ sent_last o
    two None = refl
    two (Some r) = refl

    one : (b : Bool) → (slot_key s p == q) ≡ b
        → sent_last (if b then option_map (λ x. changed x (slot_with s p (state_put t) (sent_last (record_at es (slot_key s p))))) (record_at es q) else record_at es q) ≡ sent_last (record_at es q)
    one true i =
        let key : slot_key s p ≡ q = eqb-true (slot_key s p) q i in
        subst (λ (k : ℕ). sent_last (option_map (λ x. changed x (slot_with s p (state_put t) (sent_last (record_at es (slot_key s p))))) (record_at es k)) ≡ sent_last (record_at es k)) key (two (record_at es (slot_key s p)))
    one false i = refl

pub kept-put : (s : SessionId) (p : PartId) (t : StateId) (es : List (ℕ × Record Slot)) (mail : List (ℕ × Record Message)) → EachKept es mail → EachKept (put_at es (slot_key s p) s p t) mail
kept-put s p t es mail all =
    kept-along es (put_at es (slot_key s p) s p t) mail all
    (all-weaker (IsKept es) (λ e. sent_for (put_at es (slot_key s p) s p t) e ≡ sent_for es e) (λ e _. put-same s p t (slot_key e.1.value.session e.1.value.part) es) mail all)

-- a slot that is removed is that of no other session's message
pub kept-removed : (s : SessionId) (p : PartId) (es : List (ℕ × Record Slot)) (mail : List (ℕ × Record Message)) → EachKept es mail → IsPlaced s p → find (λ m. m.session.0 == s.0) (messages_of mail) ≡ None
    → EachKept (deleted es (slot_key s p)) mail
kept-removed s p es mail all placed none =
    kept-along es (deleted es (slot_key s p)) mail all
    (all-also (IsKept es) (λ e. (e.1.value.session.0 == s.0) ≡ false) (λ e. sent_for (deleted es (slot_key s p)) e ≡ sent_for es e) one mail all (none_found (λ m. m.session.0 == s.0) mail none))
  where
    one : (e : ℕ × Record Message) → IsKept es e → (e.1.value.session.0 == s.0) ≡ false → sent_for (deleted es (slot_key s p)) e ≡ sent_for es e
    one e is other =
        let different : ((e.1.value.session.0 == s.0) && part_eq e.1.value.part p) ≡ false = rw other refl in
        let apart : (slot_key s p == slot_key e.1.value.session e.1.value.part) ≡ false = key_same e.1.value.session s e.1.value.part p is.placed placed ∙ different in
        let kept : record_at (deleted es (slot_key s p)) (slot_key e.1.value.session e.1.value.part) ≡ record_at es (slot_key e.1.value.session e.1.value.part) = lookup-filter (slot_key s p) (slot_key e.1.value.session e.1.value.part) es ∙ rw apart refl in
        ap sent_last kept

-- a message of a number above all is the last
pub messages-sent : (slots : List (ℕ × Record Slot)) (id : ℕ) (r : Record Message) (mail : List (ℕ × Record Message)) → EachKept slots mail → list_all (λ m. nat_lt m.id.0 id) (messages_of mail) ≡ true
    → messages_of (insert_by is_before (id, r) mail) ≡ messages_of mail ++ r.value ∷ []
messages-sent slots id r [] all last = refl
messages-sent slots id r (e ∷ es) all last =
    let h = both (nat_lt e.1.value.id.0 id) (list_all (λ m. nat_lt m.id.0 id) (messages_of es)) last in
    rw (all.0.key, h.0) (ap (λ ms. e.1.value ∷ ms) (messages-sent slots id r es all.1 h.1))

-- a session's message of a number is that of the record, where it is the session's
abbrev of_session : SessionId → Option (Record Message) → Option Message
of_session s None = None
of_session s (Some r) = if r.value.session.0 == s.0 then Some r.value else None

pub pending_is : (slots : List (ℕ × Record Slot)) (s : SessionId) (id : MsgId) (mail : List (ℕ × Record Message)) → IsStrictlySortedBy nat_cmp (keys_of mail) → EachKept slots mail
    → find (has_id s id) (messages_of mail) ≡ of_session s (record_at mail id.0)
pending_is slots s id [] ordered all = refl
pending_is slots s id (e ∷ es) ordered all = one (id.0 == e.0) refl (e.1.value.session.0 == s.0) refl (pending_is slots s id es (sorted_tail _ _ _ ordered) all.1)
  where
    number : (e.1.value.id.0 == id.0) ≡ (id.0 == e.0)
    number = eq_turned e.1.value.id.0 id.0 ∙ ap (λ (k : ℕ). id.0 == k) (sym all.0.key)

    one : (b : Bool) → (id.0 == e.0) ≡ b → (d : Bool) → (e.1.value.session.0 == s.0) ≡ d → find (has_id s id) (messages_of es) ≡ of_session s (record_at es id.0)
        → cond ((e.1.value.session.0 == s.0) && (e.1.value.id.0 == id.0)) (Some e.1.value) (find (has_id s id) (messages_of es)) ≡ of_session s (cond (id.0 == e.0) (Some e.1) (record_at es id.0))
    one true i true j rest = rw (number, i, j) refl
    one true i false j rest = rw (i, j, rest, absent-past_head id.0 e es (IsDistinct-from_sorted _ _ ordered) i) refl
    one false i true j rest = rw (number, i, j) rest
    one false i false j rest = rw (number, i, j) rest

-- the record of a pending message
pub found_at : (slots : List (ℕ × Record Slot)) (s : SessionId) (id : MsgId) (m : Message) (mail : List (ℕ × Record Message)) → IsStrictlySortedBy nat_cmp (keys_of mail) → EachKept slots mail
    → find (has_id s id) (messages_of mail) ≡ Some m → (r : Record Message) × (record_at mail id.0 ≡ Some r) × (r.value ≡ m)
found_at slots s id m mail ordered all found = one (record_at mail id.0) refl (sym (pending_is slots s id mail ordered all) ∙ found)
  where
    two : (r : Record Message) (b : Bool) → (if b then Some r.value else None) ≡ Some m → r.value ≡ m
    two r true h = some_is r.value m h
    two r false h = cc

    one : (o : Option (Record Message)) → record_at mail id.0 ≡ o → of_session s o ≡ Some m → (r : Record Message) × (record_at mail id.0 ≡ Some r) × (r.value ≡ m)
    one None h f = cc
    one (Some r) h f = (r, h, two r (r.value.session.0 == s.0) f)

-- another message at the number of one
pub messages-marked : (slots : List (ℕ × Record Slot)) (mark : Message → Message) (m v : Message) (mail : List (ℕ × Record Message)) → EachKept slots mail → AllByRecursion (λ e. (m.id.0 == e.0) ≡ true → e.1.value ≡ m) mail
    → v ≡ mark m → messages_of (set_to mail m.id.0 v) ≡ map (λ x. if has_id m.session m.id x then mark x else x) (messages_of mail)
messages-marked slots mark m v [] all only is = refl
messages-marked slots mark m v (e ∷ es) all only is = one (m.id.0 == e.0) refl (messages-marked slots mark m v es all.1 only.1 is)
  where
    own : has_id m.session m.id m ≡ true
    own = rw (same_key m.session.0, same_key m.id.0) refl

    here : (x : Message) → m ≡ x → v ≡ (if has_id m.session m.id x then mark x else x)
    here x h = subst (λ (y : Message). v ≡ (if has_id m.session m.id y then mark y else y)) h (rw own is)

    other : (m.id.0 == e.0) ≡ false → has_id m.session m.id e.1.value ≡ false
    other i =
        let number : (e.1.value.id.0 == m.id.0) ≡ false = eq_turned e.1.value.id.0 m.id.0 ∙ ap (λ (k : ℕ). m.id.0 == k) (sym all.0.key) ∙ i in
        rw number (and_false (e.1.value.session.0 == m.session.0))

    one : (b : Bool) → (m.id.0 == e.0) ≡ b → messages_of (set_to es m.id.0 v) ≡ map (λ x. if has_id m.session m.id x then mark x else x) (messages_of es)
        → messages_of ((if m.id.0 == e.0 then (e.0, changed e.1 v) else e) ∷ set_to es m.id.0 v) ≡ map (λ x. if has_id m.session m.id x then mark x else x) (messages_of (e ∷ es))
    one true i rest = rw i (ap (λ (x : Message). x ∷ messages_of (set_to es m.id.0 v)) (here e.1.value (sym (only.0 i))) ∙ ap (λ ms. (if has_id m.session m.id e.1.value then mark e.1.value else e.1.value) ∷ ms) rest)
    one false i rest = rw (i, other i) (ap (λ ms. e.1.value ∷ ms) rest)

-- a message that is removed
pub messages-removed : (slots : List (ℕ × Record Slot)) (s : SessionId) (k : ℕ) (mail : List (ℕ × Record Message)) → EachKept slots mail → AllByRecursion (λ e. (k == e.0) ≡ true → (e.1.value.session.0 == s.0) ≡ true) mail
    → messages_of (deleted mail k) ≡ filter (λ x. not ((x.session.0 == s.0) && (x.id.0 == k))) (messages_of mail)
messages-removed slots s k [] all only = refl
messages-removed slots s k (e ∷ es) all only = one (k == e.0) refl (messages-removed slots s k es all.1 only.1)
  where
    number : (e.1.value.id.0 == k) ≡ (k == e.0)
    number = eq_turned e.1.value.id.0 k ∙ ap (λ (j : ℕ). k == j) (sym all.0.key)

    one : (b : Bool) → (k == e.0) ≡ b → messages_of (deleted es k) ≡ filter (λ x. not ((x.session.0 == s.0) && (x.id.0 == k))) (messages_of es)
        → messages_of (cond (not (k == e.0)) (e ∷ deleted es k) (deleted es k))
        ≡ cond (not ((e.1.value.session.0 == s.0) && (e.1.value.id.0 == k))) (e.1.value ∷ filter (λ x. not ((x.session.0 == s.0) && (x.id.0 == k))) (messages_of es)) (filter (λ x. not ((x.session.0 == s.0) && (x.id.0 == k))) (messages_of es))
    one true i rest = rw (number, only.0 i, i) rest
    one false i rest = rw (number, i, and_false (e.1.value.session.0 == s.0)) (ap (λ ms. e.1.value ∷ ms) rest)

-- the messages that a session owns
pub mail-owned : (slots : List (ℕ × Record Slot)) (s : SessionId) (mail : List (ℕ × Record Message)) → EachKept slots mail → owned_values mail s 0 ≡ filter (λ m. m.session.0 == s.0) (messages_of mail)
mail-owned slots s [] all = refl
mail-owned slots s (e ∷ es) all = one (e.1.value.session.0 == s.0) refl (mail-owned slots s es all.1)
  where
    up : nat_le 0 e.0 ≡ true
    up = grind (arith, nat_tests)

    one : (b : Bool) → (e.1.value.session.0 == s.0) ≡ b → owned_values es s 0 ≡ filter (λ m. m.session.0 == s.0) (messages_of es)
        → owned_values (e ∷ es) s 0 ≡ filter (λ m. m.session.0 == s.0) (messages_of (e ∷ es))
    one true i rest = rw (all.0.owner, i, up) (ap (λ ms. e.1.value ∷ ms) rest)
    one false i rest = rw (all.0.owner, i) rest

-- the message of a part by what its slot was sent last
pub message_is : (slots : List (ℕ × Record Slot)) (s : SessionId) (p : PartId) (sent : Option MsgId) (mail : List (ℕ × Record Message)) → IsStrictlySortedBy nat_cmp (keys_of mail) → EachKept slots mail
    → sent_last (record_at slots (slot_key s p)) ≡ sent → message_of (messages_of mail) s p ≡ by_sent mail s p sent
message_is slots s p None [] ordered all is = refl
message_is slots s p (Some id) [] ordered all is = refl
message_is slots s p sent (e ∷ es) ordered all is = one (is_message s p e.1.value) refl (message_is slots s p sent es (sorted_tail _ _ _ ordered) all.1 is)
  where
    named : is_message s p e.1.value ≡ true → sent ≡ Some e.1.value.id
    named i =
        let at = of_part s e.1.value.session p e.1.value.part i in
        let slot : sent_last (record_at slots (slot_key s e.1.value.part)) ≡ Some e.1.value.id = subst (λ (x : SessionId). sent_last (record_at slots (slot_key x e.1.value.part)) ≡ Some e.1.value.id) at.0 all.0.slot in
        sym is ∙ subst (λ (q : PartId). sent_last (record_at slots (slot_key s q)) ≡ Some e.1.value.id) at.1 slot

    here : is_message s p e.1.value ≡ true → (o : Option MsgId) → o ≡ Some e.1.value.id → Some e.1.value ≡ by_sent (e ∷ es) s p o
    here i None h = cc
    here i (Some id) h =
        let same : id ≡ e.1.value.id = some_is id e.1.value.id h in
        let key : (id.0 == e.0) ≡ true = rw (ap (λ (x : MsgId). x.0) same, all.0.key) (same_key e.1.value.id.0) in
        rw (key, i) refl

    past : is_message s p e.1.value ≡ false → (o : Option MsgId) → by_sent es s p o ≡ by_sent (e ∷ es) s p o
    past i None = refl
    past i (Some id) = two (id.0 == e.0) refl
      where
        two : (b : Bool) → (id.0 == e.0) ≡ b → of_replica s p (record_at es id.0) ≡ of_replica s p (cond (id.0 == e.0) (Some e.1) (record_at es id.0))
        two true j = rw (j, i, absent-past_head id.0 e es (IsDistinct-from_sorted _ _ ordered) j) refl
        two false j = rw j refl

    one : (b : Bool) → is_message s p e.1.value ≡ b → message_of (messages_of es) s p ≡ by_sent es s p sent
        → cond (is_message s p e.1.value) (Some e.1.value) (message_of (messages_of es) s p) ≡ by_sent (e ∷ es) s p sent
    one true i rest = rw i (here i sent (named i))
    one false i rest = rw i (rest ∙ past i sent)

-- where the slot isn't there or names none, there is none
pub message_absent : (slots : List (ℕ × Record Slot)) (s : SessionId) (p : PartId) (mail : List (ℕ × Record Message)) → EachKept slots mail → (IsPlaced s p → sent_last (record_at slots (slot_key s p)) ≡ None)
    → message_of (messages_of mail) s p ≡ None
message_absent slots s p [] all absent = refl
message_absent slots s p (e ∷ es) all absent = one (is_message s p e.1.value) refl (message_absent slots s p es all.1 absent)
  where
    no : is_message s p e.1.value ≡ true → ⊥
    no i =
        let at = of_part s e.1.value.session p e.1.value.part i in
        let placed : IsPlaced s p = subst (λ (q : PartId). IsPlaced s q) at.1 (subst (λ (x : SessionId). IsPlaced x e.1.value.part) at.0 all.0.placed) in
        let slot : sent_last (record_at slots (slot_key s e.1.value.part)) ≡ Some e.1.value.id = subst (λ (x : SessionId). sent_last (record_at slots (slot_key x e.1.value.part)) ≡ Some e.1.value.id) at.0 all.0.slot in
        let named : None ≡ Some e.1.value.id = sym (absent placed) ∙ subst (λ (q : PartId). sent_last (record_at slots (slot_key s q)) ≡ Some e.1.value.id) at.1 slot in
        cc

    one : (b : Bool) → is_message s p e.1.value ≡ b → message_of (messages_of es) s p ≡ None → cond b (Some e.1.value) (message_of (messages_of es) s p) ≡ None
    one true i rest = absurd (no i)
    one false i rest = rest

pub message_last : (slots : List (ℕ × Record Slot)) (s : SessionId) (p : PartId) (sent : Option MsgId) (mail : List (ℕ × Record Message)) → (IsSome sent → IsStrictlySortedBy nat_cmp (keys_of mail)) → EachKept slots mail
    → sent_last (record_at slots (slot_key s p)) ≡ sent → by_sent mail s p sent ≡ message_of (messages_of mail) s p
message_last slots s p None mail ordered all is = sym (message_absent slots s p mail all (λ placed. is))
message_last slots s p (Some id) mail ordered all is = sym (message_is slots s p (Some id) mail (ordered refl) all is)

-- a message with one mark more
kept-marked : (slots : List (ℕ × Record Slot)) (k : ℕ) (r : Record Message) (m : Message) (taken written : Bool) → IsKept slots (k, r) → r.value ≡ m → one_unless taken + one_unless written + 1 ≡ one_unless m.taken + one_unless m.written
    → IsKept slots (k, changed r (record m { taken = taken; written = written }))
kept-marked slots k r m taken written kept same one =
    let is : IsKept slots (k, record r { value = m }) = subst (λ (x : Message). IsKept slots (k, record r { value = x })) same kept in
    let marks : r.version + one_unless m.taken + one_unless m.written ≤ 3 = is.marks in
    record { key = is.key; owner = is.owner; placed = is.placed; slot = is.slot; marks = omega arith }

pub kept-taken : (slots : List (ℕ × Record Slot)) (k : ℕ) (r : Record Message) (m : Message) → IsKept slots (k, r) → r.value ≡ m → m.taken ≡ false → IsKept slots (k, changed r (record m { taken = true }))
kept-taken slots k r m kept same free = kept-marked slots k r m true m.written kept same (rw free (omega arith))

pub kept-written : (slots : List (ℕ × Record Slot)) (k : ℕ) (r : Record Message) (m : Message) → IsKept slots (k, r) → r.value ≡ m → m.written ≡ false → IsKept slots (k, changed r (record m { written = true }))
kept-written slots k r m kept same free = kept-marked slots k r m m.taken true kept same (rw free (omega arith))

-- outcomes that may come
pub unwritten-append : (ms : List Message) (m : Message) → unwritten_in (ms ++ m ∷ []) ≡ unwritten_in ms + one_unless m.written
unwritten-append [] m = omega arith
unwritten-append (x ∷ ms) m = omega (arith, unwritten-append ms m)

pub unwritten-filter : (k : Message → Bool) (ms : List Message) → unwritten_in (filter k ms) ≤ unwritten_in ms
unwritten-filter k [] = omega arith
unwritten-filter k (m ∷ ms) = grind (arith, unwritten-filter k ms)

pub unwritten-taken : (s : SessionId) (id : MsgId) (ms : List Message) → unwritten_in (map (as_taken s id) ms) ≡ unwritten_in ms
unwritten-taken s id [] = refl
unwritten-taken s id (m ∷ ms) = one (has_id s id m) (unwritten-taken s id ms)
  where
    one : (b : Bool) → unwritten_in (map (as_taken s id) ms) ≡ unwritten_in ms
        → one_unless (if b then record m { taken = true } else m).written + unwritten_in (map (as_taken s id) ms) ≡ one_unless m.written + unwritten_in ms
    one true same = omega (arith, same)
    one false same = omega (arith, same)

writes-less : (s : SessionId) (id : MsgId) (m : Message) → one_unless (as_written s id m).written ≤ one_unless m.written
writes-less s id m = one (has_id s id m) m.written
  where
    one : (b t : Bool) → one_unless (if b then record m { written = true } else record m { written = t }).written ≤ one_unless t
    one true true = omega arith
    one true false = omega arith
    one false t = omega arith

unwritten-map : (s : SessionId) (id : MsgId) (ms : List Message) → unwritten_in (map (as_written s id) ms) ≤ unwritten_in ms
unwritten-map s id [] = omega arith
unwritten-map s id (m ∷ ms) = omega (arith, unwritten-map s id ms, writes-less s id m)

-- a write is of a message that wasn't written
pub unwritten-written : (s : SessionId) (id : MsgId) (ms : List Message) (x : Message) → find (has_id s id) ms ≡ Some x → x.written ≡ false → unwritten_in (map (as_written s id) ms) + 1 ≤ unwritten_in ms
unwritten-written s id [] x e free = cc
unwritten-written s id (m ∷ ms) x e free = one (has_id s id m) e (λ g. unwritten-written s id ms x g free) (writes-less s id m)
  where
    same : Some m ≡ Some x → m ≡ x
    same f = cc

    one : (b : Bool) → (if b then Some m else find (has_id s id) ms) ≡ Some x
        → (find (has_id s id) ms ≡ Some x → unwritten_in (map (as_written s id) ms) + 1 ≤ unwritten_in ms)
        → one_unless (if b then record m { written = true } else m).written ≤ one_unless m.written
        → one_unless (if b then record m { written = true } else m).written + unwritten_in (map (as_written s id) ms) + 1 ≤ one_unless m.written + unwritten_in ms
    one true f rest less =
        let unmarked : m.written ≡ false = ap (λ (y : Message). y.written) (same f) ∙ free in
        let owed : one_unless m.written ≡ 1 = rw unmarked refl in
        omega (arith, owed, unwritten-map s id ms)
    one false f rest less = omega (arith, rest f)

-- a pending message by what its record is
pub pending_absent : (slots : List (ℕ × Record Slot)) (s : SessionId) (id : MsgId) (mail : List (ℕ × Record Message)) → EachKept slots mail → record_at mail id.0 ≡ None → find (has_id s id) (messages_of mail) ≡ None
pending_absent slots s id [] all absent = refl
pending_absent slots s id (e ∷ es) all absent = one (id.0 == e.0) refl absent (pending_absent slots s id es all.1)
  where
    number : (e.1.value.id.0 == id.0) ≡ (id.0 == e.0)
    number = eq_turned e.1.value.id.0 id.0 ∙ ap (λ (k : ℕ). id.0 == k) (sym all.0.key)

    one : (b : Bool) → (id.0 == e.0) ≡ b → cond b (Some e.1) (record_at es id.0) ≡ None → (record_at es id.0 ≡ None → find (has_id s id) (messages_of es) ≡ None)
        → cond ((e.1.value.session.0 == s.0) && (e.1.value.id.0 == id.0)) (Some e.1.value) (find (has_id s id) (messages_of es)) ≡ None
    one true i h rest = cc
    one false i h rest = rw (number, i, and_false (e.1.value.session.0 == s.0)) (rest h)

pub pending_own : (slots : List (ℕ × Record Slot)) (s : SessionId) (id : MsgId) (m : Message) (mail : List (ℕ × Record Message)) → IsStrictlySortedBy nat_cmp (keys_of mail) → EachKept slots mail
    → Some m ≡ option_map (λ r. r.value) (record_at mail id.0) → true ≡ (m.session.0 == s.0) → Some m ≡ find (has_id s id) (messages_of mail)
pending_own slots s id m mail ordered all there own =
    let r = value_of m (record_at mail id.0) there in
    let here : (r.0.value.session.0 == s.0) ≡ true = ap (λ (x : Message). x.session.0 == s.0) r.2 ∙ sym own in
    sym (pending_is slots s id mail ordered all ∙ rw (r.1, here) (ap (λ (x : Message). Some x) r.2))

pub pending_other : (slots : List (ℕ × Record Slot)) (s : SessionId) (id : MsgId) (m : Message) (mail : List (ℕ × Record Message)) → IsStrictlySortedBy nat_cmp (keys_of mail) → EachKept slots mail
    → Some m ≡ option_map (λ r. r.value) (record_at mail id.0) → false ≡ (m.session.0 == s.0) → find (has_id s id) (messages_of mail) ≡ None
pending_other slots s id m mail ordered all there other =
    let r = value_of m (record_at mail id.0) there in
    let here : (r.0.value.session.0 == s.0) ≡ false = ap (λ (x : Message). x.session.0 == s.0) r.2 ∙ sym other in
    pending_is slots s id mail ordered all ∙ rw (r.1, here) refl
