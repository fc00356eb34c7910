-- Where the replicas of a part are wanted.
use Rattle.std.specs.Prelude.{ℕ, Bool, not, ◌==◌, List, [], map, filter, length, slice_get, slice_index_or}
use Rattle.std.specs.List.{list_any, filter_map, position_or_len}
use Rattle.hx_lists.specs.Lists.{sort_by}
use Rattle.hx_ids.specs.declared.InstanceId.{InstanceId}
use Rattle.hx_ids.specs.declared.StateId.{StateId}
use Rattle.hx_ids.specs.declared.SessionId.{SessionId}
use Rattle.hx_ideal.specs.declared.Mode.{Mode}
use Rattle.hx_ideal.specs.declared.Mode.TheVariants as modes
use Rattle.hx_cluster.specs.declared.description.Resource.{Resource}
use Rattle.hx_cluster.specs.declared.planning.View.{View}
use Rattle.hx_cluster.specs.Steps.{is_drained}
use Rattle.hx_cluster.specs.Reads.{instance_before}
use Rattle.hx_place.specs.RoundRobin.{round_robin_list}

-- the shown sessions, in order of instance
abbrev pub by_instance : List (SessionId × InstanceId) → List (SessionId × InstanceId)
by_instance live = sort_by instance_before live

-- the live instances that aren't drained, in order
abbrev pub open_instances : View → List InstanceId
open_instances view = filter (λ i. not (is_drained view.ideals.drained i)) (map (λ e. e.1) (by_instance view.live))

-- those of them whose turn a part is
abbrev pub in_turn : List InstanceId → ℕ → ℕ → List InstanceId
in_turn instances replicas p = filter_map (slice_get instances) (round_robin_list (length instances) replicas p)

-- instances in order of preference, or instances with states
pub data Wants : Type 0 where
  Listed : List InstanceId → Wants
  Mapped : List (InstanceId × StateId) → Wants

-- what a mode wants of a part
abbrev pub wants_in : Mode → View → ℕ → ℕ → Wants
wants_in modes.Full view replicas p = Listed (in_turn (open_instances view) replicas p)
wants_in (modes.Semi lists) view replicas p = Listed (slice_index_or lists p [])
wants_in (modes.Custom maps) view replicas p = Mapped (slice_index_or maps p [])

-- what is wanted of a part. A dropped resource keeps its lists and maps
abbrev pub wants_of : View → Resource → ℕ → Wants
wants_of view r p = wants_in r.ideal.mode view r.ideal.replicas p

-- whether a replica is wanted on an instance, and the place that it has in the list
abbrev pub is_wanted : Wants → InstanceId → Bool
is_wanted (Listed list) i = list_any (λ j. j.0 == i.0) list
is_wanted (Mapped map) i = list_any (λ e. e.0.0 == i.0) map

abbrev pub place_in : Wants → InstanceId → ℕ
place_in (Listed list) i = position_or_len (λ j. j.0 == i.0) list
place_in (Mapped map) i = 0
