-- Rows that say what slots say. No public clause cites this module.
use Rattle.std.specs.Prelude.{◌≡◌, ℕ, ◌==◌, List, length, IfSome, if◌then◌else◌}
use Rattle.std.specs.List.{AllByRecursion}
use Rattle.hx_ids.specs.declared.SessionId.{SessionId}
use Rattle.hx_store.specs.declared.Record.{Record}
use Rattle.hx_store.specs.Records.{owned_from}
use Rattle.hx_slots.specs.declared.slot.Slot.{Slot}
use Rattle.hx_slots.specs.Index.{Ready, one_more, kept_of}
use Rattle.hx_slots.specs.Slots.{IsSlot, rows_of}

-- the rows of a session's slots, in order of key, and how many those are
abbrev pub ready_of : List (ℕ × Record Slot) → SessionId → Ready
ready_of slots s = let own = owned_from slots s 0 in record { slots = length own; rows = rows_of own }

-- each session whose rows are kept has those of its slots
abbrev pub AreMirrored : List (ℕ × Record Slot) → List (SessionId × Ready) → Type 0
AreMirrored slots index = (s : SessionId) → IfSome (kept_of index s) (λ kept. kept ≡ ready_of slots s)

-- each is a slot, after some changes
abbrev pub AreAllSlots : List (ℕ × Record Slot) → Type 0
AreAllSlots slots = (changes : ℕ) × AllByRecursion (IsSlot changes) slots

-- a slot more, without a row, stands with those of its session, where that session's rows are kept
abbrev pub IsNoted : SessionId → List (ℕ × Record Slot) → List (SessionId × Ready) → Type 0
IsNoted session slots index = (s : SessionId) → IfSome (kept_of index s) (λ kept. kept ≡ (if session.0 == s.0 then one_more (ready_of slots s) else ready_of slots s))
