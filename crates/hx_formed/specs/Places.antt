-- Where a pass over what is of a session is.
use Rattle.std.specs.Prelude.{◌≡◌, ◌<◌, ℕ, ◌+◌, Bool, true, not, ◌==◌, ◌&&◌, ◌||◌, nat_lt, nat_le, List, if◌then◌else◌}
use Rattle.hx_ids.specs.declared.PartId.{PartId}
use Rattle.hx_ids.specs.declared.StateId.{StateId}
use Rattle.hx_model.specs.declared.ModelParts.{ModelParts}
use Rattle.hx_model.specs.Model.{error, has_state}
use Rattle.hx_cluster.specs.declared.description.Resource.{Resource}
use Rattle.hx_cluster.specs.Ends.{model_at, model_of, parts_of, part_before}
use Rattle.hx_formed.specs.declared.places.Place.{Place}
use Rattle.hx_formed.specs.Reads.{is_place}

-- a state that replicas of a model may be in
abbrev pub may_be : ModelParts → StateId → Bool
may_be m t = (t.0 == error.0) || has_state m t

-- the part from which on the next one may be
abbrev pub from_of : Place → PartId
from_of at = record { resource = at.resource; index = at.next }

-- a place is one of these resources: it has so many parts and this model, and replicas may be in its states
pub record IsAt (models : List ModelParts) (resources : List Resource) (at : Place) : Type 0 where
  pub parts : at.parts ≡ parts_of resources at.resource
  pub model : 0 < at.parts → model_at models at.model ≡ model_of models resources at.resource
  pub last : may_be (model_of models resources at.resource) at.last ≡ true
  pub other : may_be (model_of models resources at.resource) at.other ≡ true

-- a part that may be next, with a state of one of its replicas
abbrev pub is_next : List ModelParts → List Resource → PartId → PartId → StateId → Bool
is_next models resources from p t = not (part_before p from) && is_place models resources p t

-- whether a place takes one of the parts of its resource; and the place behind that
abbrev pub has_part : List ModelParts → Place → ℕ → StateId → Bool
has_part models at index t =
    nat_le at.next index && nat_lt index at.parts && ((t.0 == at.last.0) || (t.0 == at.other.0) || may_be (model_at models at.model) t)

abbrev pub other_than : Place → StateId → StateId
other_than at t = if t.0 == at.last.0 then at.other else at.last

abbrev pub place_behind : Place → ℕ → StateId → Place
place_behind at index t = record { resource = at.resource; next = index + 1; parts = at.parts; model = at.model; last = t; other = other_than at t }
