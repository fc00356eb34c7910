-- Which session owns which key.
use Rattle.std.specs.Prelude.{◌≡◌, ℕ, ◌≤◌, ◌<◌, Bool, true, false, ◌==◌, List, Option, None, Some, MatchOption}
use Rattle.std.specs.List.{list_any}
use Rattle.std.specs.List.Sorted.{IsStrictlySortedBy}
use Rattle.std.specs.Map.{keys_of, lookup}
use Rattle.std.specs.Ordering.{nat_cmp}
use Rattle.hx_ids.specs.declared.SessionId.{SessionId}
use Rattle.hx_store.specs.declared.Record.{Record}
use Rattle.hx_store.specs.Records.{record_at, owns}

-- whether a key stands among some, if there are any
abbrev pub is_among : Option (List ℕ) → ℕ → Bool
is_among None key = false
is_among (Some keys) key = list_any (λ k. key == k) keys

-- whether a key stands among those of a session
abbrev pub has : List (SessionId × List ℕ) → SessionId → ℕ → Bool
has owned session key = is_among (lookup (λ s. session.0 == s.0) owned) key

-- the owner of a record, if there are both
abbrev pub owner_of : {V : Type 0} → Option (Record V) → Option SessionId
owner_of None = None
owner_of (Some r) = r.owner

-- the keys of each session are those of the records that it owns
abbrev pub IsIndexed : {V : Type 0} → List (ℕ × Record V) → List (SessionId × List ℕ) → Type 0
IsIndexed records pairs = (s : SessionId) (k : ℕ) → has pairs s k ≡ owns (owner_of (record_at records k)) s

-- what holds of each store
pub record IsStore {V : Type 0} (records : List (ℕ × Record V)) (pairs : List (SessionId × List ℕ)) : Type 0 where
  pub ordered : IsStrictlySortedBy nat_cmp (keys_of records)
  pub indexed : IsIndexed records pairs

-- the first number from one on that passes a test, if there is one
abbrev pub IsFirstFrom : (ℕ → Bool) → ℕ → Option ℕ → Type 0
IsFirstFrom test from r = MatchOption r ((k : ℕ) → from ≤ k → test k ≡ false) (λ k. (from ≤ k) × (test k ≡ true) × ((q : ℕ) → from ≤ q → q < k → test q ≡ false))
