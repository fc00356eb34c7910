-- Walks over keys that have records.
use Rattle.std.specs.Prelude.{◌≡◌, ℕ, Bool, ◌==◌, List, [], Option, None, Some, IsSome}
use Rattle.std.specs.List.{filter_map, list_any, AllByRecursion}
use Rattle.std.specs.List.Sorted.{IsStrictlySortedBy}
use Rattle.std.specs.Option.{option_map}
use Rattle.std.specs.VecDeque.Iter.{deque_iter_rest}
use Rattle.std.specs.declared.collections.vec_deque.Iter.{Iter}
use Rattle.std.specs.Ordering.{nat_cmp}
use Rattle.hx_store.specs.declared.Record.{Record}
use Rattle.hx_store.specs.Records.{record_at}

-- the keys that are left, if there were any
abbrev pub keys_left : Option (Iter ℕ) → List ℕ
keys_left None = []
keys_left (Some keys) = deque_iter_rest keys

-- the values at keys
abbrev pub values_at : {V : Type 0} → List (ℕ × Record V) → List ℕ → List V
values_at records keys = filter_map (λ k. option_map (λ r. r.value) (record_at records k)) keys

-- each key has a record
abbrev pub HaveRecords : {V : Type 0} → List (ℕ × Record V) → List ℕ → Type 0
HaveRecords records keys = AllByRecursion (λ k. IsSome (record_at records k)) keys

-- keys are those that pass a test, in order
pub record AreThose (test : ℕ → Bool) (keys : List ℕ) : Type 0 where
  pub ordered : IsStrictlySortedBy nat_cmp keys
  pub passing : (k : ℕ) → list_any (λ j. k == j) keys ≡ test k
