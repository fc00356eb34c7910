-- The least number of transitions between states, and the first of them.
use Rattle.std.specs.Prelude.{◌+◌, Bool, ◌==◌, ◌&&◌, ◌||◌, List, [], ◌∷◌, Option, None, if◌then◌else◌}
use Rattle.std.specs.List.{find}
use Rattle.hx_ids.specs.declared.StateId.{StateId}
use Rattle.hx_model.specs.declared.ModelParts.{ModelParts}
use Rattle.hx_model.specs.Model.{has_state, is_legal}
pub use Rattle.hx_model.specs.Walks.{steps_from, has_walk, least_from, dist}

-- the first state, in rank order, that is one transition nearer to the goal
abbrev pub hop : ModelParts → StateId → StateId → Option StateId
hop m s goal = if s.0 == goal.0 then None else find (λ t. dist m t goal + 1 == dist m s goal) (steps_from m s)

-- what a replica may be in: a state of the model, or ERROR
abbrev pub is_from : ModelParts → StateId → Bool
is_from m s = has_state m s || (s.0 == 0)

-- where one may be wanted: in a state of the model, or DROPPED
abbrev pub is_goal : ModelParts → StateId → Bool
is_goal m s = has_state m s || (s.0 == 1)

-- whether states lead on from one, each by a legal transition, to the goal
abbrev pub leads : ModelParts → StateId → List StateId → StateId → Bool
leads m s [] goal = s.0 == goal.0
leads m s (t ∷ path) goal = is_legal m s t && leads m t path goal
