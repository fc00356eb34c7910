-- Sets of numbers below 64, as the bits of a number.
use Rattle.std.specs.Prelude.{ℕ, Bool, ◌==◌, ◌||◌, ◌≡◌, true, List, slice_index_or}
use Rattle.std.specs.Int.{bit_at}
use Rattle.hx_cluster.specs.declared.state.Row.{Row}

abbrev pub has_number : ℕ → ℕ → Bool
has_number set k = bit_at set k == 1

-- a set of places of rows has got no more but places of rows that pass a test
abbrev pub IsNoted : (Row → Bool) → List Row → ℕ → ℕ → Type 0
IsNoted q rows old new = (k : ℕ) (d : Row) → has_number new k ≡ true → (has_number old k || q (slice_index_or rows k d)) ≡ true
