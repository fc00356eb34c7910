-- Counts of what has happened, in 64 bits. A count stands still at the end of its type.
use Rattle.std.specs.Prelude.{ℕ, ◌+◌, ◌-◌, ◌^◌, ◌<◌, ◌≤◌, min}

-- a count after one more
abbrev pub count_up : ℕ → ℕ
count_up n = min (n + 1) (2 ^ 64 - 1)

-- a count rose, or stands at the end of its type
abbrev pub Rose : ℕ → ℕ → Type 0
Rose before now = count_up before ≤ now

-- a count isn't at the end of its type
abbrev pub CountsOn : ℕ → Type 0
CountsOn n = n < 2 ^ 64 - 1
