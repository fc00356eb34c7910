-- The text of the lines that a log is read from.
use Rattle.std.specs.Prelude.{ℕ, Bool, false, true, List, ◌++◌, filter, codes}
use Rattle.std.specs.List.{flat_map}
use Rattle.hx_script.specs.declared.log.Sort.{Sort}
use Rattle.hx_script.specs.declared.log.Sort.TheVariants as sorts
use Rattle.hx_script.specs.Logs.{sort_of}

-- the lines that are not passed over, each with its line feed
abbrev pub is_kept : Sort → Bool
is_kept sorts.PassedOver = false
is_kept _ = true

abbrev pub kept_text : List (List ℕ) → List ℕ
kept_text lines = flat_map (λ l. l ++ codes "\n") (filter (λ l. is_kept (sort_of l)) lines)
