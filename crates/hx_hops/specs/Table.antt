-- The table of distances and hops.
use Rattle.std.specs.Prelude.{◌≡◌, ℕ, ◌+◌, ◌<◌, ◌≤◌, ◌==◌, List, [], ◌∷◌, ◌++◌, length, map, slice_index, None}
use Rattle.std.specs.List.{flat_map, position_or_len}
use Rattle.hx_ids.specs.declared.StateId.{StateId}
use Rattle.hx_model.specs.declared.ModelParts.{ModelParts}
use Rattle.hx_model.specs.Faults.{fault_of}
use Rattle.hx_model.specs.Model.{states_of, error, dropped}
use Rattle.hx_hops.specs.declared.Way.{Way}
use Rattle.hx_hops.specs.Hops.{dist, hop}

-- the way from a state to a goal
abbrev pub way_of : ModelParts → StateId → StateId → Way
way_of m s goal = record { dist = dist m s goal; hop = hop m s goal }

-- the states in which a way begins, and those in which it ends
abbrev pub froms_of : ModelParts → List StateId
froms_of m = states_of m ++ error ∷ []

abbrev pub goals_of : ModelParts → List StateId
goals_of m = states_of m ++ dropped ∷ []

-- the ways to a goal
abbrev pub ways_to : ModelParts → StateId → List Way
ways_to m goal = map (λ s. way_of m s goal) (froms_of m)

-- a table: the place of each state number, and the ways, goal by goal
pub record IsTable (m : ModelParts) (places : List ℕ) (width : ℕ) (ways : List Way) : Type 0 where
  pub sound : fault_of m ≡ None
  pub few : length m.states ≤ 16
  pub room : length places ≡ 256
  pub numbered : (s : ℕ) → s < 256 → slice_index places s ≡ position_or_len (λ t. t.0 == s) (states_of m)
  pub wide : width ≡ length m.states + 1
  pub filled : ways ≡ flat_map (ways_to m) (goals_of m)
