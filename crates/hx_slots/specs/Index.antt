-- The rows of sessions that stand ready to be copied. No public clause cites this module.
use Rattle.std.specs.Prelude.{◌≡◌, ℕ, ◌+◌, ◌<◌, ◌==◌, not, Bool, true, false, slice_set, List, length, Option, None, Some, if◌then◌else◌}
use Rattle.std.specs.List.{position_or_len, insert, remove}
use Rattle.std.specs.List.Sorted.{IsPartitionedBy}
use Rattle.std.specs.Map.{lookup}
use Rattle.hx_ids.specs.declared.SessionId.{SessionId}
use Rattle.hx_ids.specs.declared.PartId.{PartId}
use Rattle.hx_cluster.specs.declared.state.Row.{Row}
use Rattle.hx_cluster.specs.Ends.{part_before}

-- the rows of a session, in order of part, and how many slots it has
pub record Ready : Type 0 where
  pub slots : ℕ
  pub rows : List Row

-- with one slot more, which has no row
abbrev pub one_more : Ready → Ready
one_more kept = record kept { slots = kept.slots + 1 }

-- the place of a part's row, or the one where it would stand
abbrev pub place_of : PartId → List Row → ℕ
place_of p rows = position_or_len (λ r. not (part_before r.part p)) rows

-- rows once the one in a place was changed or taken out, or one was put there
abbrev pub row_placed : Bool → Option Row → List Row → ℕ → List Row
row_placed had None rows n = if had then remove rows n else rows
row_placed had (Some r) rows n = if had then slice_set rows n r else insert rows n r

-- and once a part that had a row, or none, got one, or none
abbrev pub put_in : PartId → Bool → Option Row → Ready → Ready
put_in p had row kept = record kept { rows = row_placed had row kept.rows (place_of p kept.rows) }

-- the rows of the parts before stand in front, and a part's row is there, or there is room for it
pub record CanPut (p : PartId) (had : Bool) (kept : Ready) : Type 0 where
  pub ordered : IsPartitionedBy (λ r. part_before r.part p) kept.rows
  pub there : had ≡ true → place_of p kept.rows < length kept.rows
  pub room : had ≡ false → length kept.rows < kept.slots

-- the rows that are kept of a session, if they are
abbrev pub kept_of : List (SessionId × Ready) → SessionId → Option Ready
kept_of index s = lookup (λ t. s.0 == t.0) index

-- a session's rows become these, or aren't kept any more, and those of others stay
abbrev pub Puts : SessionId → Option Ready → List (SessionId × Ready) → List (SessionId × Ready) → Type 0
Puts session kept before now = (s : SessionId) → kept_of now s ≡ (if session.0 == s.0 then kept else kept_of before s)

-- the rows of all sessions stay
abbrev pub Keeps : List (SessionId × Ready) → List (SessionId × Ready) → Type 0
Keeps before now = (s : SessionId) → kept_of now s ≡ kept_of before s
