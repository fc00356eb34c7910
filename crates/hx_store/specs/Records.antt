-- A store as the list of its keys with their records, in order of key.
use Rattle.std.specs.Prelude.{ℕ, ◌+◌, Bool, false, not, ◌==◌, ◌&&◌, List, map, filter, find, Option, None, Some, nat_le, nat_lt, if◌then◌else◌}
use Rattle.std.specs.Map.{lookup, keys_of}
use Rattle.std.specs.Option.{option_map}
use Rattle.hx_lists.specs.Lists.{count, insert_by}
use Rattle.hx_ids.specs.declared.SessionId.{SessionId}
use Rattle.hx_store.specs.declared.Record.{Record}

-- the record of a key
abbrev pub record_at : {V : Type 0} → List (ℕ × Record V) → ℕ → Option (Record V)
record_at records key = lookup (λ k. key == k) records

-- whether an entry stands before another
abbrev pub is_before : {V : Type 0} → ℕ × Record V → ℕ × Record V → Bool
is_before a b = nat_lt a.0 b.0

-- the first record of a key
abbrev pub first_record : {V : Type 0} → Option SessionId → V → Record V
first_record owner value = record { version = 1; owner = owner; value = value }

-- a record with another value, one version on
abbrev pub changed : {V : Type 0} → Record V → V → Record V
changed r value = record r { version = r.version + 1; value = value }

-- with a new record
abbrev pub created : {V : Type 0} → List (ℕ × Record V) → ℕ → Option SessionId → V → List (ℕ × Record V)
created records key owner value = insert_by is_before (key, first_record owner value) records

-- with another value at a key
abbrev pub set_to : {V : Type 0} → List (ℕ × Record V) → ℕ → V → List (ℕ × Record V)
set_to records key value = map (λ e. if key == e.0 then (e.0, changed e.1 value) else e) records

-- without the record of a key
abbrev pub deleted : {V : Type 0} → List (ℕ × Record V) → ℕ → List (ℕ × Record V)
deleted records key = filter (λ e. not (key == e.0)) records

-- whether a session is an owner
abbrev pub owns : Option SessionId → SessionId → Bool
owns None session = false
owns (Some owner) session = owner.0 == session.0

-- whether a session owns an entry
abbrev pub is_owned_by : {V : Type 0} → SessionId → ℕ × Record V → Bool
is_owned_by session e = owns e.1.owner session

-- without the records of an owner
abbrev pub without_owner : {V : Type 0} → List (ℕ × Record V) → SessionId → List (ℕ × Record V)
without_owner records owner = filter (λ e. not (is_owned_by owner e)) records

-- how many records an owner has
abbrev pub owned_by : {V : Type 0} → List (ℕ × Record V) → SessionId → ℕ
owned_by records owner = count (is_owned_by owner) records

-- the keys from one on, below another
abbrev pub keys_within : {V : Type 0} → List (ℕ × Record V) → ℕ → ℕ → List ℕ
keys_within records from to = filter (λ k. nat_le from k && nat_lt k to) (keys_of records)

-- the first key from one on whose record a session owns
abbrev pub next_owned : {V : Type 0} → List (ℕ × Record V) → SessionId → ℕ → Option ℕ
next_owned records owner from = option_map (λ e. e.0) (find (λ e. is_owned_by owner e && nat_le from e.0) records)

-- the entries of an owner from a key on
abbrev pub owned_from : {V : Type 0} → List (ℕ × Record V) → SessionId → ℕ → List (ℕ × Record V)
owned_from records owner from = filter (λ e. is_owned_by owner e && nat_le from e.0) records
