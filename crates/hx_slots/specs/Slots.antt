-- The slots and the messages that are kept, and what holds of them. No public clause cites this module.
use Rattle.std.specs.Prelude.{◌≡◌, ℕ, ◌+◌, ◌*◌, ◌^◌, ◌<◌, ◌≤◌, ◌==◌, List, [], ◌∷◌, map, Option, None, Some, if◌then◌else◌}
use Rattle.std.specs.List.{filter_map, AllByRecursion}
use Rattle.std.specs.List.Sorted.{IsStrictlySortedBy}
use Rattle.std.specs.Map.{keys_of}
use Rattle.std.specs.Option.{option_map}
use Rattle.std.specs.Ordering.{nat_cmp}
use Rattle.hx_ids.specs.declared.SessionId.{SessionId}
use Rattle.hx_ids.specs.declared.StateId.{StateId}
use Rattle.hx_ids.specs.declared.MsgId.{MsgId}
use Rattle.hx_ids.specs.declared.PartId.{PartId}
use Rattle.hx_model.specs.Model.{dropped}
use Rattle.hx_cluster.specs.declared.state.Row.{Row}
use Rattle.hx_cluster.specs.declared.state.Message.{Message}
use Rattle.hx_cluster.specs.Ends.{is_message}
use Rattle.hx_cluster.specs.Weight.{one_unless}
use Rattle.hx_store.specs.declared.Record.{Record}
use Rattle.hx_store.specs.Records.{record_at, created, set_to, deleted, owned_from}
use Rattle.hx_slots.specs.declared.slot.Slot.{Slot}

-- a session and a part that have a key
pub record IsPlaced (s : SessionId) (p : PartId) : Type 0 where
  pub session : s.0 < 2 ^ 39
  pub resource : p.resource.0 < 256
  pub index : p.index < 1024

-- their key. Keys stand as rows do
abbrev pub slot_key : SessionId → PartId → ℕ
slot_key s p = s.0 * 262144 + p.resource.0 * 1024 + p.index

-- the row of a slot, if it has one
abbrev pub row_with : Slot → Option StateId → Option Row
row_with slot None = None
row_with slot (Some t) = Some (record { session = slot.session; part = slot.part; state = t })

abbrev pub row_of : Slot → Option Row
row_of slot = row_with slot slot.state

-- the values of records, in order, and those that a session owns from a key on
abbrev pub values_of : {V : Type 0} → List (ℕ × Record V) → List V
values_of records = map (λ e. e.1.value) records

abbrev pub owned_values : {V : Type 0} → List (ℕ × Record V) → SessionId → ℕ → List V
owned_values records session from = values_of (owned_from records session from)

-- the rows of slots, and the messages of records
abbrev pub rows_of : List (ℕ × Record Slot) → List Row
rows_of slots = filter_map row_of (values_of slots)

abbrev pub messages_of : List (ℕ × Record Message) → List Message
messages_of mail = values_of mail

-- a value is that of the first record that a session owns, and the records are left without it
pub record IsPopped {V : Type 0} (records : List (ℕ × Record V)) (session : SessionId) (taken : V) (left : List (ℕ × Record V)) : Type 0 where
  pub entry : ℕ × Record V
  pub value : entry.1.value ≡ taken
  pub first : owned_from records session 0 ≡ entry ∷ owned_from records session (entry.0 + 1)
  pub there : record_at records entry.0 ≡ Some entry.1
  pub rest : left ≡ deleted records entry.0

-- how many outcomes may still come to rows
abbrev pub unwritten_in : List Message → ℕ
unwritten_in [] = 0
unwritten_in (m ∷ ms) = one_unless m.written + unwritten_in ms

-- the message that a slot was sent last
abbrev pub sent_last : Option (Record Slot) → Option MsgId
sent_last None = None
sent_last (Some r) = r.value.sent

-- the message of a part by what its slot was sent last
abbrev pub of_replica : SessionId → PartId → Option (Record Message) → Option Message
of_replica s p None = None
of_replica s p (Some r) = if is_message s p r.value then Some r.value else None

abbrev pub by_sent : List (ℕ × Record Message) → SessionId → PartId → Option MsgId → Option Message
by_sent mail s p None = None
by_sent mail s p (Some id) = of_replica s p (record_at mail id.0)

-- a slot
abbrev pub slot_with : SessionId → PartId → Option StateId → Option MsgId → Slot
slot_with s p state sent = record { session = s; part = p; state = state; sent = sent }

-- the slot of a session's part
pub record IsSlotOf (slots : List (ℕ × Record Slot)) (s : SessionId) (p : PartId) (slot : Slot) : Type 0 where
  pub placed : IsPlaced s p
  pub ordered : IsStrictlySortedBy nat_cmp (keys_of slots)
  pub there : option_map (λ r. r.value) (record_at slots (slot_key s p)) ≡ Some slot

-- slots where a message was sent to the one of a key, which is the part's. One that isn't there is made
abbrev pub sent_over : List (ℕ × Record Slot) → ℕ → SessionId → PartId → MsgId → Option (Record Slot) → List (ℕ × Record Slot)
sent_over slots key s p id None = created slots key (Some s) (slot_with s p None (Some id))
sent_over slots key s p id (Some r) = set_to slots key (slot_with s p r.value.state (Some id))

abbrev pub sent_at : List (ℕ × Record Slot) → ℕ → SessionId → PartId → MsgId → List (ℕ × Record Slot)
sent_at slots key s p id = sent_over slots key s p id (record_at slots key)

-- a slot's state once its replica was put at one
abbrev pub state_put : StateId → Option StateId
state_put t = if t.0 == dropped.0 then None else Some t

-- slots where the one of a key, which is the part's, was put at a state
abbrev pub put_at : List (ℕ × Record Slot) → ℕ → SessionId → PartId → StateId → List (ℕ × Record Slot)
put_at slots key s p t = set_to slots key (slot_with s p (state_put t) (sent_last (record_at slots key)))

-- what holds of each slot with its key
pub record IsSlot (changes : ℕ) (e : ℕ × Record Slot) : Type 0 where
  pub placed : IsPlaced e.1.value.session e.1.value.part
  pub key : e.0 ≡ slot_key e.1.value.session e.1.value.part
  pub owner : e.1.owner ≡ Some e.1.value.session
  pub version : e.1.version ≤ changes + 1

-- what holds of each message with its key: its slot names it. Its version counts its marks
pub record IsKept (slots : List (ℕ × Record Slot)) (e : ℕ × Record Message) : Type 0 where
  pub key : e.0 ≡ e.1.value.id.0
  pub owner : e.1.owner ≡ Some e.1.value.session
  pub placed : IsPlaced e.1.value.session e.1.value.part
  pub slot : sent_last (record_at slots (slot_key e.1.value.session e.1.value.part)) ≡ Some e.1.value.id
  pub marks : e.1.version + one_unless e.1.value.taken + one_unless e.1.value.written ≤ 3

-- what holds of both. Each outcome that may come has its change of a slot paid
pub record AreSlots (slots : List (ℕ × Record Slot)) (mail : List (ℕ × Record Message)) (changes paid : ℕ) : Type 0 where
  pub each_slot : AllByRecursion (IsSlot changes) slots
  pub each_message : AllByRecursion (IsKept slots) mail
  pub room : changes + unwritten_in (messages_of mail) ≤ paid
  pub fits : paid ≤ 2 ^ 62
