-- A log that is read from line to line.
use Rattle.std.specs.Prelude.{ℕ, ◌+◌, ◌-◌, ◌^◌, ◌<◌, ◌≤◌, ◌==◌, ◌&&◌, Bool, false, List, ◌∷◌, length, drop, Option}
use Rattle.hx_cluster.specs.declared.description.Spec.{Spec}
use Rattle.hx_script.specs.declared.log.LogEntry.{LogEntry}
use Rattle.hx_script.specs.Logs.{exact_words, entry_told, with_added, blocks_from, told_entries}
use Rattle.hx_logs.specs.Walk.{line_at, indented_before}

-- a line begins as an `add` entry does
abbrev pub may_add : List ℕ → Bool
may_add (a ∷ b ∷ c ∷ rest) = (a == 97) && (b == 100) && (c == 100)
may_add _ = false

-- what the line at a place tells as an entry, and the description with the name that it brings
abbrev pub entry_at : Spec → ℕ → List (List ℕ) → Option LogEntry
entry_at spec place lines = entry_told spec (line_at lines place) (indented_before (drop (place + 1) lines))

abbrev pub named_at : Spec → ℕ → List (List ℕ) → Spec
named_at spec place lines = with_added spec (exact_words (line_at lines place)) (entry_at spec place lines)

-- the description with the names that the entries from a place on bring
abbrev pub names_left : Spec → ℕ → List (List ℕ) → Spec
names_left spec place lines = (told_entries spec (blocks_from (place + 1) (drop place lines)).entries).1

-- the lines from a place on can be read: models and states have numbers of 8 bits, and there is room for a name of each line
pub record IsReadableFrom (spec : Spec) (place : ℕ) (lines : List (List ℕ)) : Type 0 where
  pub models : length spec.model_names ≤ 256
  pub states : length spec.states ≤ 256
  pub within : place ≤ length lines
  pub names : length spec.resource_names + (length lines - place) < 2 ^ 32
