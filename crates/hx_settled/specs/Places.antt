-- Where replicas may be: each part on each live session.
use Rattle.std.specs.Prelude.{ℕ, Bool, not, ◌==◌, ◌||◌, List, length, map, if◌then◌else◌}
use Rattle.std.specs.List.{flat_map, list_any, sum_by}
use Rattle.std.specs.Option.{option_map_or}
use Rattle.hx_lists.specs.Lists.{numbers_below}
use Rattle.hx_ids.specs.declared.InstanceId.{InstanceId}
use Rattle.hx_ids.specs.declared.SessionId.{SessionId}
use Rattle.hx_ids.specs.declared.PartId.{PartId}
use Rattle.hx_cluster.specs.declared.description.Resource.{Resource}
use Rattle.hx_model.specs.Model.{error}
use Rattle.hx_cluster.specs.declared.state.Message.{Message}
use Rattle.hx_cluster.specs.declared.happenings.Outcome.{Outcome}
use Rattle.hx_cluster.specs.declared.happenings.Outcome.TheVariants as outcomes
use Rattle.hx_cluster.specs.declared.state.Cluster.{Cluster}
use Rattle.hx_cluster.specs.Ends.{state_of, resource_at, model_of, parts_of}
use Rattle.hx_cluster.specs.Steps.{is_error, is_flag}
use Rattle.hx_cluster.specs.Reads.{live_shown}
use Rattle.hx_best.specs.Targets.{target}
use Rattle.hx_pass.specs.Left.{steps_left}
use Rattle.hx_pass.specs.Explained.{view_at}

pub record Place : Type 0 where
  pub part : PartId
  pub session : SessionId
  pub instance : InstanceId

abbrev pub place_on : PartId → SessionId × InstanceId → Place
place_on p e = record { part = p; session = e.0; instance = e.1 }

-- those of a part, of so many parts of a resource, and of all resources
abbrev pub places_at : List (SessionId × InstanceId) → PartId → List Place
places_at live p = map (place_on p) live

abbrev pub places_in : List (SessionId × InstanceId) → ℕ → ℕ → List Place
places_in live n parts =
    flat_map (λ k. places_at live (record { resource = record { 0 = n }; index = k }))
    (numbers_below parts)

abbrev pub places_over : List (SessionId × InstanceId) → List Resource → List Place
places_over live resources =
    flat_map (λ n. places_in live n (parts_of resources (record { 0 = n })))
    (numbers_below (length resources))

abbrev pub places_of : Cluster → List Place
places_of c = places_over (live_shown c) c.resources

-- how many transitions the replica at a place is from its goal
abbrev pub left_at : Cluster → Place → ℕ
left_at c x =
    option_map_or (λ r. steps_left (model_of c.models c.resources x.part.resource)
    (target c.models (view_at c) r x.part (x.session, x.instance)))
    (resource_at c.resources x.part.resource) 0

-- how often a replica may still fail or be reset: twice where a reset was asked for, once where it
-- isn't in ERROR
abbrev pub tries_of : Bool → Bool → ℕ
tries_of in_error asked = if in_error then (if asked then 2 else 0) else 1

abbrev pub tries_at : Cluster → Place → ℕ
tries_at c x =
    tries_of (is_error (state_of c.rows x.session x.part))
    (list_any (is_flag x.session x.part) c.resets)

abbrev pub tries_left : Cluster → ℕ
tries_left c = sum_by (tries_at c) (places_of c)

-- what a write takes of that: a failure one, and a reset one
abbrev pub spent : Message → Outcome → ℕ
spent m outcomes.Ok = if m.from.0 == error.0 then 1 else 0
spent m outcomes.Failed = 1

-- a transition from ERROR was asked for, and doesn't fail
abbrev pub is_spendable : Cluster → Message → Outcome → Bool
is_spendable c m outcomes.Ok =
    not (m.from.0 == error.0) || list_any (is_flag m.session m.part) c.resets
is_spendable c m outcomes.Failed = not (m.from.0 == error.0)
