-- The loads of rules, in a table.
use Rattle.std.specs.Prelude.{ℕ, ◌+◌, ◌*◌, ◌&&◌, nat_lt, List, length, Option, None, Some, slice_index_or, if◌then◌else◌}
use Rattle.hx_counts.specs.Tally.{Numbers, loads_of}

-- the cells of the first rules, and what is counted beside them
pub record Table : Type 0 where
  pub cells : List ℕ
  pub others : Numbers

-- the place of a load among so many cells: 16 rules have a row each of 256 keys
abbrev pub place_in : ℕ → ℕ → ℕ → Option ℕ
place_in cells rule key = if nat_lt rule 16 && (nat_lt key 256 && nat_lt (rule * 256 + key) cells) then Some (rule * 256 + key) else None

-- what is in a cell, or beside the cells
abbrev pub load_in : Table → ℕ → ℕ → Option ℕ → ℕ
load_in t rule key None = loads_of t.others rule key
load_in t rule key (Some place) = slice_index_or t.cells place 0

-- how many loads there are of a rule and key
abbrev pub load_at : Table → ℕ → ℕ → ℕ
load_at t rule key = load_in t rule key (place_in (length t.cells) rule key)
