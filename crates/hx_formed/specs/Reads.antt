-- Lists as they are read: session by session in the order of the live ones, and what is of a session in order of part.
use Rattle.std.specs.Prelude.{◌+◌, Bool, true, false, not, ◌==◌, ◌&&◌, ◌||◌, nat_lt, List, [], ◌∷◌, Option, None, Some, if◌then◌else◌}
use Rattle.hx_ids.specs.declared.SessionId.{SessionId}
use Rattle.hx_ids.specs.declared.InstanceId.{InstanceId}
use Rattle.hx_ids.specs.declared.PartId.{PartId}
use Rattle.hx_ids.specs.declared.StateId.{StateId}
use Rattle.hx_model.specs.declared.ModelParts.{ModelParts}
use Rattle.hx_model.specs.Model.{error, dropped, has_state}
use Rattle.hx_cluster.specs.declared.description.Resource.{Resource}
use Rattle.hx_cluster.specs.declared.state.Row.{Row}
use Rattle.hx_cluster.specs.declared.state.Message.{Message}
use Rattle.hx_cluster.specs.Ends.{model_of, parts_of, part_before}

-- the first part of all, and what comes behind a part
abbrev pub first_part : PartId
first_part = record { resource = record { 0 = 0 }; index = 0 }

abbrev pub part_after : PartId → PartId
part_after p = record { resource = p.resource; index = p.index + 1 }

-- a part of one of the resources, and a state that its replicas may be in
abbrev pub is_place : List ModelParts → List Resource → PartId → StateId → Bool
is_place models resources p t =
    nat_lt p.index (parts_of resources p.resource) && ((t.0 == error.0) || has_state (model_of models resources p.resource) t)

abbrev pub is_row_there : List ModelParts → List Resource → Row → Bool
is_row_there models resources r = is_place models resources r.part r.state

abbrev pub is_message_there : List ModelParts → List Resource → Message → Bool
is_message_there models resources m = is_place models resources m.part m.from && ((m.to.0 == dropped.0) || is_place models resources m.part m.to)

-- what stands behind the items of a session at the front, which are good and rise in part, from one on
abbrev pub behind : {X : Type 0} → (X → SessionId) → (X → PartId) → (X → Bool) → SessionId → PartId → List X → Option (List X)
behind session_of part_of good s from [] = Some []
behind session_of part_of good s from (x ∷ xs) =
    if (session_of x).0 == s.0
    then (if not (part_before (part_of x) from) && good x then behind session_of part_of good s (part_after (part_of x)) xs else None)
    else Some (x ∷ xs)

-- the items are those of the live sessions one after another
abbrev pub are_read : {X : Type 0} → (X → SessionId) → (X → PartId) → (X → Bool) → List (SessionId × InstanceId) → Option (List X) → Bool
are_read session_of part_of good live None = false
are_read session_of part_of good [] (Some []) = true
are_read session_of part_of good [] (Some (x ∷ xs)) = false
are_read session_of part_of good (e ∷ live) (Some xs) = are_read session_of part_of good live (behind session_of part_of good e.0 first_part xs)
