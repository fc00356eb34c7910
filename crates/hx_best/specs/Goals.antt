-- The state where a replica is to go.
use Rattle.std.specs.Prelude.{ℕ, ◌-◌, Bool, false, not, ◌==◌, ◌&&◌, ◌||◌, nat_lt, List, [], ◌∷◌, length, find, unwrap_or, if◌then◌else◌}
use Rattle.std.specs.List.{list_any, before_first}
use Rattle.std.specs.Option.{option_map_or}
use Rattle.hx_lists.specs.Lists.{count}
use Rattle.hx_ids.specs.declared.InstanceId.{InstanceId}
use Rattle.hx_ids.specs.declared.StateId.{StateId}
use Rattle.hx_ids.specs.declared.SessionId.{SessionId}
use Rattle.hx_ids.specs.declared.PartId.{PartId}
use Rattle.hx_model.specs.declared.Bound.{Bound}
use Rattle.hx_model.specs.declared.ModelParts.{ModelParts}
use Rattle.hx_model.specs.Model.{error, dropped, limit_of}
use Rattle.hx_cluster.specs.declared.description.Resource.{Resource}
use Rattle.hx_cluster.specs.declared.planning.View.{View}
use Rattle.hx_cluster.specs.Ends.{state_of, session_in, model_at}
use Rattle.hx_cluster.specs.Steps.{is_drained, is_flag, is_error}
use Rattle.hx_best.specs.Wants.{Wants, Listed, Mapped, wants_of, is_wanted}

-- how many replicas a state takes: as many as its limit, and none where it has no limit
abbrev pub room_in : Bound → ℕ → ℕ → ℕ
room_in bound replicas live = unwrap_or (limit_of bound replicas live) 0

-- the states take the places in priority order; the initial state takes the rest
abbrev pub best_among : List (StateId × Bound) → StateId → ℕ → ℕ → ℕ → StateId
best_among [] initial replicas live k = initial
best_among (s ∷ states) initial replicas live k =
    let room = room_in s.1 replicas live in
    if nat_lt k room then s.0 else best_among states initial replicas live (k - room)

-- the state of the eligible entry at a place, with the resource's replicas and the number of live sessions
abbrev pub best_state : ModelParts → ℕ → ℕ → ℕ → StateId
best_state m replicas live k = best_among m.states m.initial replicas live k

abbrev pub is_in_error : View → SessionId → PartId → Bool
is_in_error view s p = is_error (state_of view.rows s p)

-- whether a reset was asked for
abbrev pub is_asked : View → SessionId → PartId → Bool
is_asked view s p = list_any (is_flag s p) view.ideals.resets

-- an instance can take a state of a part where it is live and not drained, and its replica isn't in ERROR
abbrev pub is_eligible : View → PartId → InstanceId → Bool
is_eligible view p i =
    option_map_or (λ s. not (is_drained view.ideals.drained i) && not (is_in_error view s p)) (session_in view.live i) false

-- how many can before an instance of the list
abbrev pub eligible_before : View → PartId → List InstanceId → InstanceId → ℕ
eligible_before view p list i = count (is_eligible view p) (before_first (λ j. j.0 == i.0) list)

-- the goal of an eligible entry of the list: the best state, where there are replicas left for it
abbrev pub best_below : ModelParts → ℕ → ℕ → ℕ → StateId
best_below m replicas live k = if nat_lt k replicas then best_state m replicas live k else dropped

-- the goal of a replica that is wanted on an instance that isn't drained
abbrev pub wanted_goal : ModelParts → View → Resource → PartId → Wants → InstanceId → StateId
wanted_goal m view r p (Listed list) i = best_below m r.ideal.replicas (length view.live) (eligible_before view p list i)
wanted_goal m view r p (Mapped map) i = option_map_or (λ e. e.1) (find (λ e. e.0.0 == i.0) map) dropped

-- the goal of a session's replica
abbrev pub goal : List ModelParts → View → Resource → PartId → SessionId → InstanceId → StateId
goal models view r p s i =
    let m = model_at models r.model in
    let wants = wants_of view r p.index in
    if is_in_error view s p then (if is_asked view s p then m.initial else error)
    else if r.dropped || not (is_wanted wants i) then dropped
    else if is_drained view.ideals.drained i then m.initial
    else wanted_goal m view r p wants i
