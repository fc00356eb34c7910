-- What the lines of the script that is made ask for.
use Rattle.std.specs.Prelude.{ℕ, ◌+◌, ◌*◌, List, [], ◌∷◌, ◌++◌, map}
use Rattle.std.specs.List.{flat_map}
use Rattle.hx_ids.specs.Words.{instance, controller}
use Rattle.hx_script.specs.declared.What.{What}
use Rattle.hx_script.specs.declared.What.TheVariants as asks
use Rattle.hx_script.specs.declared.Line.{Line}
use Rattle.hx_genwork.specs.Made.{all_instances, instance_name}

abbrev pub all_names : List (List ℕ)
all_names = map instance_name all_instances

abbrev pub at_line : ℕ → What → Line
at_line n what = record { number = n; what = what }

abbrev pub join_asked : ℕ → Line
join_asked n = at_line (1 + n) (asks.Join (instance n))

-- drained, settled, back, and settled, in four lines for each instance
abbrev pub drain_asked : ℕ → List Line
drain_asked n =
    at_line (15 + 4 * n) (asks.Drain (instance n)) ∷ at_line (16 + 4 * n) asks.Settle ∷ at_line (17 + 4 * n) (asks.Undrain (instance n)) ∷ at_line (18 + 4 * n) asks.Settle ∷ []

-- all of them, in 63 lines
abbrev pub all_asked : List Line
all_asked =
    map join_asked all_instances
    ++ (at_line 13 (asks.Lead (controller 0)) ∷ at_line 14 asks.Settle ∷ [])
    ++ flat_map drain_asked all_instances
    ++ (at_line 63 asks.Summary ∷ [])
