-- The makings of handlers that were tried, part by part.
use Rattle.std.specs.Prelude.{ℕ, List, [], ◌∷◌, if◌then◌else◌}
use Rattle.hx_lists.specs.Counts.{count_up}
use Rattle.hx_ids.specs.declared.PartId.{PartId}
use Rattle.hx_cluster.specs.Ends.{part_eq}

-- how many makings of a part were tried
abbrev pub tried_of : List (PartId × ℕ) → PartId → ℕ
tried_of [] p = 0
tried_of (x ∷ xs) p = if part_eq x.0 p then x.1 else tried_of xs p

-- one more making of a part is tried
abbrev pub tried_up : List (PartId × ℕ) → PartId → List (PartId × ℕ)
tried_up [] p = (p, 1) ∷ []
tried_up (x ∷ xs) p = if part_eq x.0 p then (p, count_up x.1) ∷ xs else x ∷ tried_up xs p
