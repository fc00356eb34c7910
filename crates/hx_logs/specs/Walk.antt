-- The lines of a log, walked forward.
use Rattle.std.specs.Prelude.{ℕ, List, [], ◌∷◌, drop, slice_index_or}
use Rattle.hx_script.specs.declared.log.Sort.{Sort}
use Rattle.hx_script.specs.declared.log.Sort.TheVariants as sorts
use Rattle.hx_script.specs.Logs.{sort_of}

-- the line at a place
abbrev pub line_at : List (List ℕ) → ℕ → List ℕ
line_at lines place = slice_index_or lines place []

-- the indented lines up to the next entry, behind their spaces
abbrev pub indented_by : Sort → List ℕ → List (List ℕ) → List (List ℕ)
indented_by sorts.PassedOver line rest = rest
indented_by sorts.Indented line rest = drop 2 line ∷ rest
indented_by sorts.Head line rest = []

abbrev pub indented_before : List (List ℕ) → List (List ℕ)
indented_before [] = []
indented_before (l ∷ ls) = indented_by (sort_of l) l (indented_before ls)
