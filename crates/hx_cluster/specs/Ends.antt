-- The ends of a session's replica of a part, how many sessions have a state among them, and what a throttle counts.
-- The lists may be a cluster's own, or those that a controller was shown.
use Rattle.std.specs.Prelude.{ℕ, Bool, true, false, ◌==◌, ◌&&◌, ◌||◌, List, [], length, map, filter, find, Option, None, Some, option_map, slice_get, slice_index_or, nat_lt}
use Rattle.std.specs.List.{list_any}
use Rattle.std.specs.Option.{option_map_or}
use Rattle.hx_lists.specs.Lists.{count}
use Rattle.hx_ids.specs.declared.InstanceId.{InstanceId}
use Rattle.hx_ids.specs.declared.StateId.{StateId}
use Rattle.hx_ids.specs.declared.ResourceId.{ResourceId}
use Rattle.hx_ids.specs.declared.ModelId.{ModelId}
use Rattle.hx_ids.specs.declared.SessionId.{SessionId}
use Rattle.hx_ids.specs.declared.PartId.{PartId}
use Rattle.hx_ids.specs.declared.Live.{Live}
pub use Rattle.hx_ids.specs.Sessions.{is_session, is_live}
use Rattle.hx_model.specs.declared.ModelParts.{ModelParts}
use Rattle.hx_model.specs.Model.{limit_of, bound_of, dropped}
use Rattle.hx_cluster.specs.declared.description.Resource.{Resource}
use Rattle.hx_cluster.specs.declared.description.Rule.{Rule}
use Rattle.hx_cluster.specs.declared.description.Scope.{Scope}
use Rattle.hx_cluster.specs.declared.description.Scope.TheVariants as scopes
use Rattle.hx_cluster.specs.declared.state.Row.{Row}
use Rattle.hx_cluster.specs.declared.state.Message.{Message}
use Rattle.hx_cluster.specs.declared.state.Cluster.{Cluster}

-- parts, and their order
abbrev pub part_eq : PartId → PartId → Bool
part_eq a b = (a.resource.0 == b.resource.0) && (a.index == b.index)

abbrev pub part_before : PartId → PartId → Bool
part_before a b = nat_lt a.resource.0 b.resource.0 || ((a.resource.0 == b.resource.0) && nat_lt a.index b.index)

-- the row and the pending message of a session's part
abbrev pub is_row : SessionId → PartId → Row → Bool
is_row s p r = (r.session.0 == s.0) && part_eq r.part p

abbrev pub is_message : SessionId → PartId → Message → Bool
is_message s p m = (m.session.0 == s.0) && part_eq m.part p

abbrev pub row_of : List Row → SessionId → PartId → Option Row
row_of rows s p = find (is_row s p) rows

abbrev pub message_of : List Message → SessionId → PartId → Option Message
message_of mail s p = find (is_message s p) mail

-- the row's state
abbrev pub state_of : List Row → SessionId → PartId → Option StateId
state_of rows s p = option_map (λ r. r.state) (row_of rows s p)

-- whether a state is an end of the replica: the row's state, or the from or the to of the pending message
abbrev pub row_at : StateId → Option Row → Bool
row_at t None = false
row_at t (Some r) = r.state.0 == t.0

abbrev pub message_at : StateId → Option Message → Bool
message_at t None = false
message_at t (Some m) = (m.from.0 == t.0) || (m.to.0 == t.0)

abbrev pub has_end : List Row → List Message → PartId → StateId → SessionId → Bool
has_end rows mail p t s = row_at t (row_of rows s p) || message_at t (message_of mail s p)

-- the sessions that have it, and how many they are
abbrev pub holders_of : List SessionId → List Row → List Message → PartId → StateId → List SessionId
holders_of sessions rows mail p t = filter (has_end rows mail p t) sessions

abbrev pub count_over : List SessionId → List Row → List Message → PartId → StateId → ℕ
count_over sessions rows mail p t = length (holders_of sessions rows mail p t)

-- live sessions
abbrev pub sessions_of : List Live → List SessionId
sessions_of live = map (λ l. l.session) live

-- each with its instance
abbrev pub shown_of : List Live → List (SessionId × InstanceId)
shown_of live = map (λ l. (l.session, l.instance)) live

abbrev pub is_shown : List (SessionId × InstanceId) → SessionId → Bool
is_shown shown s = list_any (λ e. e.0.0 == s.0) shown

abbrev pub instance_in : List (SessionId × InstanceId) → SessionId → Option InstanceId
instance_in shown s = option_map (λ e. e.1) (find (λ e. e.0.0 == s.0) shown)

abbrev pub session_in : List (SessionId × InstanceId) → InstanceId → Option SessionId
session_in shown i = option_map (λ e. e.0) (find (λ e. e.1.0 == i.0) shown)

-- how many live sessions have the state among the ends
abbrev pub count_of : Cluster → PartId → StateId → ℕ
count_of c p t = count_over (sessions_of c.live) c.rows c.mail p t

-- a part's resource and model. A part that isn't there has a model without states
abbrev pub no_model : ModelParts
no_model = record { states = []; initial = dropped; transitions = [] }

abbrev pub model_at : List ModelParts → ModelId → ModelParts
model_at models m = slice_index_or models m.0 no_model

abbrev pub resource_at : List Resource → ResourceId → Option Resource
resource_at resources r = slice_get resources r.0

abbrev pub model_of : List ModelParts → List Resource → ResourceId → ModelParts
model_of models resources r = option_map_or (λ x. model_at models x.model) (resource_at resources r) no_model

abbrev pub replicas_of : List Resource → ResourceId → ℕ
replicas_of resources r = option_map_or (λ x. x.ideal.replicas) (resource_at resources r) 0

abbrev pub parts_of : List Resource → ResourceId → ℕ
parts_of resources r = option_map_or (λ x. x.ideal.parts) (resource_at resources r) 0

-- how many replicas of a part may be in a state, if that is limited, among so many live sessions
abbrev pub limit_over : List ModelParts → List Resource → ℕ → PartId → StateId → Option ℕ
limit_over models resources live p t = limit_of (bound_of (model_of models resources p.resource) t) (replicas_of resources p.resource) live

abbrev pub limit_at : Cluster → PartId → StateId → Option ℕ
limit_at c p t = limit_over c.models c.resources (length c.live) p t

-- whether a rule counts a transition
abbrev pub counts_transition : Option (StateId × StateId) → StateId → StateId → Bool
counts_transition None from to = true
counts_transition (Some t) from to = (t.0.0 == from.0) && (t.1.0 == to.0)

abbrev pub matches : Rule → StateId → StateId → Bool
matches r from to = counts_transition r.transition from to

-- the key under which a rule counts: the instance, the resource, or 0 for the cluster
abbrev pub key_of : Scope → List (SessionId × InstanceId) → SessionId → PartId → ℕ
key_of scopes.Cluster shown s p = 0
key_of scopes.Instance shown s p = option_map_or (λ i. i.0) (instance_in shown s) 0
key_of scopes.Resource shown s p = p.resource.0

-- how many pending messages of these sessions a rule counts under a key
abbrev pub is_counted : List (SessionId × InstanceId) → Rule → ℕ → Message → Bool
is_counted shown r key m = is_shown shown m.session && matches r m.from m.to && (key_of r.scope shown m.session m.part == key)

abbrev pub load_over : List (SessionId × InstanceId) → List Message → Rule → ℕ → ℕ
load_over shown mail r key = count (is_counted shown r key) mail

abbrev pub load_of : Cluster → Rule → ℕ → ℕ
load_of c r key = load_over (shown_of c.live) c.mail r key
