-- The replicas of a resource, and the places where it has none and one is wanted, with their goals.
use Rattle.std.specs.Prelude.{◌≡◌, ℕ, Bool, true, ◌==◌, ◌&&◌, ◌||◌, List, [], length, map, filter, nat_lt, if◌then◌else◌, IsSomeAnd}
use Rattle.std.specs.List.{All, flat_map, list_any}
use Rattle.std.specs.Option.{is_some, option_map_or}
use Rattle.hx_lists.specs.Lists.{numbers_below}
use Rattle.hx_ids.specs.declared.InstanceId.{InstanceId}
use Rattle.hx_ids.specs.declared.ResourceId.{ResourceId}
use Rattle.hx_ids.specs.declared.SessionId.{SessionId}
use Rattle.hx_ids.specs.declared.PartId.{PartId}
use Rattle.hx_model.specs.declared.ModelParts.{ModelParts}
use Rattle.hx_cluster.specs.declared.description.Resource.{Resource}
use Rattle.hx_cluster.specs.declared.planning.View.{View}
use Rattle.hx_cluster.specs.declared.planning.Target.{Target}
use Rattle.hx_cluster.specs.Ends.{row_of, state_of, resource_at}
use Rattle.hx_best.specs.Wants.{wants_of, is_wanted, place_in, by_instance}
use Rattle.hx_best.specs.Goals.{goal}

-- whether a session has a row of the part, or one is wanted on its instance
abbrev pub is_target : View → Resource → PartId → SessionId × InstanceId → Bool
is_target view r p e = is_some (row_of view.rows e.0 p) || is_wanted (wants_of view r p.index) e.1

-- its place in the list of the part; 0 in a map, and where the resource is dropped
abbrev pub place_of : View → Resource → PartId → InstanceId → ℕ
place_of view r p i = if r.dropped then 0 else place_in (wants_of view r p.index) i

abbrev pub target : List ModelParts → View → Resource → PartId → SessionId × InstanceId → Target
target models view r p e = record {
  session = e.0;
  instance = e.1;
  part = p;
  state = state_of view.rows e.0 p;
  goal = goal models view r p e.0 e.1;
  place = place_of view r p e.1;
}

-- those of a part, in order of instance
abbrev pub targets_at : List ModelParts → View → Resource → PartId → List Target
targets_at models view r p = map (target models view r p) (filter (is_target view r p) (by_instance view.live))

-- those of a resource, by partition, then instance
abbrev pub targets_in : List ModelParts → View → ResourceId → Resource → List Target
targets_in models view n r = flat_map (λ k. targets_at models view r (record { resource = n; index = k })) (numbers_below r.ideal.parts)

abbrev pub targets : List ModelParts → View → ResourceId → List Target
targets models view n = option_map_or (targets_in models view n) (resource_at view.ideals.resources n) []

-- those of all resources, in order of number
abbrev pub all_targets : List ModelParts → View → List Target
all_targets models view = flat_map (λ n. targets models view (record { 0 = n })) (numbers_below (length view.ideals.resources))

-- a target that is the one of its own session, instance and part: the session is shown on the instance, the part is one of a shown
-- resource, and has a row there or is wanted
abbrev pub is_shown_as : SessionId → InstanceId → SessionId × InstanceId → Bool
is_shown_as s i e = (e.0.0 == s.0) && (e.1.0 == i.0)

pub record IsTargetIn (models : List ModelParts) (view : View) (t : Target) (r : Resource) : Type 0 where
  pub shown : list_any (is_shown_as t.session t.instance) view.live ≡ true
  pub part : nat_lt t.part.index r.ideal.parts ≡ true
  pub wanted : is_target view r t.part (t.session, t.instance) ≡ true
  pub own : t ≡ target models view r t.part (t.session, t.instance)

abbrev pub IsTargetOf : List ModelParts → View → Target → Type 0
IsTargetOf models view t = IsSomeAnd (resource_at view.ideals.resources t.part.resource) (IsTargetIn models view t)

abbrev pub AreTargets : List ModelParts → View → List Target → Type 0
AreTargets models view ts = All (IsTargetOf models view) ts
