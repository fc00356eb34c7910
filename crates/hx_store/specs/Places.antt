-- Where a key stands among keys in order.
use Rattle.std.specs.Prelude.{◌≡◌, ℕ, ◌≤◌, ◌<◌, List, length, slice_index_or, Result, MatchResult}

-- those before a place are below a key, and those from it on above
abbrev pub IsGapFor : List ℕ → ℕ → ℕ → Type 0
IsGapFor keys key i = (i ≤ length keys) × ((k : ℕ) → k < i → slice_index_or keys k 0 < key) × ((k : ℕ) → i ≤ k → k < length keys → key < slice_index_or keys k 0)

-- the place of a key, or the one where it would stand
abbrev pub IsPlaceOf : List ℕ → ℕ → Result ℕ ℕ → Type 0
IsPlaceOf keys key r = MatchResult r (λ i. (i < length keys) × (slice_index_or keys i 0 ≡ key)) (λ i. IsGapFor keys key i)
