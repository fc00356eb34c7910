-- The goals of the places of a resource.
use Rattle.std.specs.Prelude.{◌≡◌, ℕ, ◌<◌, true, List, length, map, Option, None, Some, slice_index_or, if◌then◌else◌}
use Rattle.hx_lists.specs.Lists.{numbers_below}
use Rattle.hx_ids.specs.declared.SessionId.{SessionId}
use Rattle.hx_ids.specs.declared.InstanceId.{InstanceId}
use Rattle.hx_ids.specs.declared.StateId.{StateId}
use Rattle.hx_ids.specs.declared.PartId.{PartId}
use Rattle.hx_model.specs.declared.ModelParts.{ModelParts}
use Rattle.hx_cluster.specs.declared.description.Resource.{Resource}
use Rattle.hx_cluster.specs.declared.planning.View.{View}
use Rattle.hx_cluster.specs.declared.planning.Target.{Target}
use Rattle.hx_cluster.specs.declared.state.Row.{Row}
use Rattle.hx_cluster.specs.Ends.{model_at}
use Rattle.hx_parts.specs.Parts.{items_at}
use Rattle.hx_best.specs.declared.marks.Mark.{Mark}
use Rattle.hx_best.specs.declared.visits.Visit.{Visit}
use Rattle.hx_best.specs.Wants.{Wants, Listed, Mapped, wants_of, is_wanted, place_in, by_instance}
use Rattle.hx_best.specs.Visits.{mark_at, is_visited}
use Rattle.hx_best.specs.Goals.{best_state, wanted_goal}
use Rattle.hx_best.specs.Targets.{is_target, target}

-- the states of the places below the number of replicas
abbrev pub best_states : ModelParts → ℕ → ℕ → List StateId
best_states m replicas live = map (best_state m replicas live) (numbers_below replicas)

-- a resource in a view, with the models
pub record Placing : Type 0 where
  pub models : List ModelParts
  pub view : View
  pub resource : Resource

abbrev pub model_in : Placing → ModelParts
model_in x = model_at x.models x.resource.model

abbrev pub wants_at : Placing → PartId → Wants
wants_at x p = wants_of x.view x.resource p.index

-- its initial state, and the states of its places
pub record IsPlaced (x : Placing) (initial : StateId) (best : List StateId) : Type 0 where
  pub first : initial ≡ (model_in x).initial
  pub states : best ≡ best_states (model_in x) x.resource.ideal.replicas (length x.view.live)

-- where a part is wanted on an instance: the place, and the goal of a replica that isn't in ERROR, if the instance isn't drained
abbrev pub mark_of : Placing → PartId → Wants → InstanceId → Option Mark
mark_of x p wants i =
    if is_wanted wants i then Some (record { place = place_in wants i; goal = wanted_goal (model_in x) x.view x.resource p wants i }) else None

-- the place of where a part isn't wanted
abbrev pub place_past : Wants → ℕ
place_past (Listed list) = length list
place_past (Mapped map) = 0

-- the rows of a part
abbrev pub rows_at : Placing → PartId → List Row
rows_at x p = items_at (λ r. r.part) p x.view.rows

-- the shown sessions, in order of instance
abbrev pub order_of : Placing → List (SessionId × InstanceId)
order_of x = by_instance x.view.live

-- visits, only of shown sessions, with the mark of each whose instance is wanted
pub record IsMarked (x : Placing) (p : PartId) (wants : Wants) (visits : List Visit) (past : ℕ) : Type 0 where
  pub each : (k : ℕ) (d : SessionId × InstanceId) → k < length (order_of x) → mark_at visits k ≡ mark_of x p wants (slice_index_or (order_of x) k d).1
  pub within : (k : ℕ) → is_visited visits k ≡ true → k < length (order_of x)
  pub behind : past ≡ place_past wants

-- the target of a shown session, if there is one
abbrev pub target_at : Placing → PartId → SessionId × InstanceId → Option Target
target_at x p e = if is_target x.view x.resource p e then Some (target x.models x.view x.resource p e) else None

-- the same, with a visit of each that has a target
pub record AreVisits (x : Placing) (p : PartId) (visits : List Visit) (past : ℕ) : Type 0 where
  pub marked : IsMarked x p (wants_at x p) visits past
  pub each : (k : ℕ) (d : SessionId × InstanceId) → k < length (order_of x) → is_target x.view x.resource p (slice_index_or (order_of x) k d) ≡ true → is_visited visits k ≡ true
