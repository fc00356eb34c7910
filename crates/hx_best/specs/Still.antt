-- Parts whose replicas are all where they are to go, and the targets of the others.
use Rattle.std.specs.Prelude.{◌≡◌, ℕ, ◌+◌, Bool, true, false, not, ◌==◌, ◌&&◌, ◌||◌, List, [], ◌∷◌, length, filter, Option, if◌then◌else◌}
use Rattle.std.specs.List.{list_all, list_any}
use Rattle.std.specs.Option.{option_map_or}
use Rattle.hx_ids.specs.declared.InstanceId.{InstanceId}
use Rattle.hx_ids.specs.declared.StateId.{StateId}
use Rattle.hx_ids.specs.declared.SessionId.{SessionId}
use Rattle.hx_ids.specs.declared.PartId.{PartId}
use Rattle.hx_model.specs.declared.ModelParts.{ModelParts}
use Rattle.hx_model.specs.Model.{error, dropped}
use Rattle.hx_cluster.specs.declared.state.Row.{Row}
use Rattle.hx_cluster.specs.declared.planning.View.{View}
use Rattle.hx_cluster.specs.declared.planning.Target.{Target}
use Rattle.hx_cluster.specs.Ends.{state_of, session_in, model_of}
use Rattle.hx_cluster.specs.Steps.{is_drained}
use Rattle.hx_parts.specs.Marks.{is_marked}
use Rattle.hx_best.specs.Goals.{is_in_error, is_asked, is_eligible, best_below}
use Rattle.hx_best.specs.Places.{Placing, model_in, rows_at}

-- whether a replica is where it is to go. One that isn't there may as well be in the initial state, or be dropped
abbrev pub is_there : ModelParts → Option StateId → StateId → Bool
is_there m state goal = option_map_or (λ s. s.0 == goal.0) state ((goal.0 == m.initial.0) || (goal.0 == dropped.0))

abbrev pub is_at_goal : ModelParts → Target → Bool
is_at_goal m t = is_there m t.state t.goal

-- the same by the model of the target's resource
abbrev pub is_done : List ModelParts → View → Target → Bool
is_done models view t = is_at_goal (model_of models view.ideals.resources t.part.resource) t

-- each target that isn't at its goal, in their order, and beside these only targets of the list
pub record HasMoving (models : List ModelParts) (view : View) (all found : List Target) : Type 0 where
  pub moving : filter (λ t. not (is_done models view t)) found ≡ filter (λ t. not (is_done models view t)) all
  pub among : (q : Target → Bool) → list_all q all ≡ true → list_all q found ≡ true

-- whether a part is gone over: all are where none are marked; and those of some targets that are of such parts
abbrev pub is_among : Option (List (List Bool)) → PartId → Bool
is_among marks p = option_map_or (λ cells. is_marked cells p) marks true

abbrev pub those_among : Option (List (List Bool)) → List Target → List Target
those_among marks ts = filter (λ t. is_among marks t.part) ts

-- the goal of a replica on an instance where it is wanted in a state, if it can take one
abbrev pub goal_on : Placing → PartId → SessionId → InstanceId → StateId → StateId
goal_on x p s i wanted =
    if is_in_error x.view s p then (if is_asked x.view s p then (model_in x).initial else error)
    else if is_drained x.view.ideals.drained i then (model_in x).initial
    else wanted

-- whether the replica that is wanted on an instance is where it is to go, if the instance has a session
abbrev pub stands : Placing → PartId → InstanceId → StateId → Bool
stands x p i wanted =
    option_map_or (λ s. is_there (model_in x) (state_of x.view.rows s p) (goal_on x p s i wanted)) (session_in x.view.live i) true

-- and those that are wanted on a list, behind so many instances that can take a state
abbrev pub list_stands : Placing → PartId → List InstanceId → ℕ → Bool
list_stands x p [] rank = true
list_stands x p (i ∷ list) rank =
    stands x p i (best_below (model_in x) x.resource.ideal.replicas (length x.view.live) rank)
    && list_stands x p list (if is_eligible x.view p i then rank + 1 else rank)

abbrev pub map_stands : Placing → PartId → List (InstanceId × StateId) → Bool
map_stands x p map = list_all (λ e. stands x p e.0 e.1) map

-- a row is of the session that is shown on an instance
abbrev pub is_on : List (SessionId × InstanceId) → InstanceId → Row → Bool
is_on live i r = option_map_or (λ s. r.session.0 == s.0) (session_in live i) false

-- each row of a part is of a session of the list, and of one of the map
abbrev pub list_covers : Placing → PartId → List InstanceId → Bool
list_covers x p list = list_all (λ r. list_any (λ i. is_on x.view.live i r) list) (rows_at x p)

abbrev pub map_covers : Placing → PartId → List (InstanceId × StateId) → Bool
map_covers x p map = list_all (λ r. list_any (λ e. is_on x.view.live e.0 r) map) (rows_at x p)
