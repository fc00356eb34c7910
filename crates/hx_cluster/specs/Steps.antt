-- The steps of a cluster: what refuses each, what it answers, and the cluster after it.
use Rattle.std.specs.Prelude.{ℕ, ◌+◌, ◌-◌, ◌^◌, Bool, true, false, not, ◌==◌, ◌&&◌, ◌||◌, List, [], ◌∷◌, ◌++◌, length, map, filter, find, Option, None, Some, if◌then◌else◌, option_map, slice_get, slice_set, slice_index_or, nat_lt, nat_le, replicate}
use Rattle.std.specs.List.{list_any, list_all}
use Rattle.std.specs.Option.{option_map_or}
use Rattle.hx_lists.specs.Lists.{insert_by}
use Rattle.hx_ids.specs.Expiry.{expired}
use Rattle.hx_ids.specs.declared.InstanceId.{InstanceId}
use Rattle.hx_ids.specs.declared.StateId.{StateId}
use Rattle.hx_ids.specs.declared.ResourceId.{ResourceId}
use Rattle.hx_ids.specs.declared.ModelId.{ModelId}
use Rattle.hx_ids.specs.declared.ControllerId.{ControllerId}
use Rattle.hx_ids.specs.declared.PassNo.{PassNo}
use Rattle.hx_ids.specs.declared.SessionId.{SessionId}
use Rattle.hx_ids.specs.declared.PartId.{PartId}
use Rattle.hx_ids.specs.declared.Live.{Live}
use Rattle.hx_model.specs.Model.{states_of, error}
use Rattle.hx_ideal.specs.declared.Mode.{Mode}
use Rattle.hx_ideal.specs.declared.Mode.TheVariants as modes
use Rattle.hx_ideal.specs.declared.IdealFault.{IdealFault}
use Rattle.hx_ideal.specs.IdealState.{IdealState, put_list, put_map}
use Rattle.hx_ideal.specs.Faults.{list_fault, map_fault}
use Rattle.hx_cluster.specs.declared.description.Resource.{Resource}
use Rattle.hx_cluster.specs.declared.description.Spec.{Spec}
use Rattle.hx_cluster.specs.declared.state.Cluster.{Cluster}
use Rattle.hx_cluster.specs.declared.happenings.Admin.{Admin}
use Rattle.hx_cluster.specs.declared.happenings.Admin.TheVariants as steps
use Rattle.hx_cluster.specs.declared.happenings.Did.{Did}
use Rattle.hx_cluster.specs.declared.happenings.Did.TheVariants as dids
use Rattle.hx_cluster.specs.declared.happenings.StepFault.{StepFault}
use Rattle.hx_cluster.specs.declared.happenings.StepFault.TheVariants as faults
use Rattle.hx_cluster.specs.Ends.{part_eq, part_before, is_session, state_of, resource_at, model_of, parts_of, is_live}

-- nobody is live, nobody leads, and nothing is posted
abbrev pub opening : Spec → Cluster
opening spec = record {
  instances = replicate (length spec.instances) false;
  resources = spec.resources;
  live = [];
  rows = [];
  mail = [];
  resets = [];
  leader = None;
  epoch = record { 0 = 1 };
  controllers = replicate spec.controllers (false, record { 0 = 0 });
  clock = 0;
  line = None;
  change = 0;
  posted = [];
  next_session = 1;
  next_msg = 1;
  timeout = spec.timeout;
  models = spec.models;
  rules = spec.rules;
  states = length spec.states;
  resource_names = length spec.resource_names;
}

-- the live session of an instance
abbrev pub is_of : InstanceId → Live → Bool
is_of i l = l.instance.0 == i.0

abbrev pub live_of : List Live → InstanceId → Option Live
live_of live i = find (is_of i) live

abbrev pub session_of : Cluster → InstanceId → Option SessionId
session_of c i = option_map (λ l. l.session) (live_of c.live i)

-- whether an instance is drained, and whether a controller is down
abbrev pub is_drained : List Bool → InstanceId → Bool
is_drained drained i = slice_index_or drained i.0 false

abbrev pub is_down : Cluster → ControllerId → Bool
is_down c k = option_map_or (λ d. d.0) (slice_get c.controllers k.0) false

abbrev pub is_leader : ControllerId → Option ControllerId → Bool
is_leader k None = false
is_leader k (Some l) = l.0 == k.0

-- the newest resource of a name
abbrev pub or_this : Bool → ℕ → Option ResourceId → Option ResourceId
or_this is n (Some later) = Some later
or_this is n None = if is then Some (record { 0 = n }) else None

abbrev pub newest_from : ℕ → List Resource → ℕ → Option ResourceId
newest_from n [] name = None
newest_from n (r ∷ rs) name = or_this (r.name == name) n (newest_from (n + 1) rs name)

abbrev pub newest : Cluster → ℕ → Option ResourceId
newest c name = newest_from 0 c.resources name

abbrev pub is_dropped : List Resource → ResourceId → Bool
is_dropped resources r = option_map_or (λ x. x.dropped) (resource_at resources r) false

-- whether a live session has a row or a message of a resource
abbrev pub is_held : Cluster → ResourceId → Bool
is_held c r = list_any (λ x. (x.part.resource.0 == r.0) && is_live c.live x.session) c.rows || list_any (λ m. (m.part.resource.0 == r.0) && is_live c.live m.session) c.mail

abbrev pub is_flag : SessionId → PartId → SessionId × PartId → Bool
is_flag s p f = (f.0.0 == s.0) && part_eq f.1 p

-- the refusals of single steps
abbrev pub not_live : Option Live → Option StepFault
not_live None = Some faults.NotLive
not_live (Some l) = None

abbrev pub already_live : Option Live → Option StepFault
already_live None = None
already_live (Some l) = Some (faults.AlreadyLive l.session)

abbrev pub already_so : Bool → Option StepFault
already_so b = if b then Some faults.AlreadySo else None

abbrev pub name_in_use : Cluster → Option ResourceId → Option StepFault
name_in_use c None = if nat_le 256 (length c.resources) then Some faults.TooMany else None
name_in_use c (Some r) =
    if not (is_dropped c.resources r) || is_held c r then Some (faults.NameInUse r)
    else if nat_le 256 (length c.resources) then Some faults.TooMany
    else None

abbrev pub ideal_fault : Option IdealFault → Option StepFault
ideal_fault None = None
ideal_fault (Some f) = Some (faults.Ideal f)

abbrev pub is_semi : Mode → Bool
is_semi (modes.Semi lists) = true
is_semi _ = false

abbrev pub is_custom : Mode → Bool
is_custom (modes.Custom maps) = true
is_custom _ = false

-- a list or a map of a part is refused where the resource is dropped, has another mode or lacks the part, or by its own fault
abbrev pub edit_fault : (Mode → Bool) → PartId → Option IdealFault → Option Resource → Option StepFault
edit_fault takes p fault None = None
edit_fault takes p fault (Some r) =
    if r.dropped then Some faults.ResourceDropped
    else if not (takes r.ideal.mode) then Some faults.WrongMode
    else if nat_le r.ideal.parts p.index then Some (faults.NoPart r.ideal.parts)
    else ideal_fault fault

-- a reset is refused where nobody is live, the part isn't there, the replica isn't in ERROR, or was asked already
abbrev pub is_error : Option StateId → Bool
is_error None = false
is_error (Some s) = s.0 == error.0

abbrev pub reset_fault : Cluster → PartId → Option Live → Option StepFault
reset_fault c p None = Some faults.NotLive
reset_fault c p (Some l) =
    if nat_le (parts_of c.resources p.resource) p.index then Some (faults.NoPart (parts_of c.resources p.resource))
    else if not (is_error (state_of c.rows l.session p)) then Some (faults.NotError (state_of c.rows l.session p))
    else if list_any (is_flag l.session p) c.resets then Some faults.AlreadyAsked
    else None

abbrev pub lead_fault : Cluster → ControllerId → Option ControllerId → Option StepFault
lead_fault c k (Some l) = Some (faults.LedBy l c.epoch)
lead_fault c k None = if is_down c k then Some faults.ControllerDown else None

-- the refusal of a step, if there is one
abbrev pub refusal_of : Cluster → Admin → Option StepFault
refusal_of c (steps.Join i) = already_live (live_of c.live i)
refusal_of c (steps.End i) = not_live (live_of c.live i)
refusal_of c (steps.Beat i) = not_live (live_of c.live i)
refusal_of c (steps.Tick n) = if nat_lt (2 ^ 64 - 1) (c.clock + n) then Some faults.ClockEnd else None
refusal_of c (steps.Drain i) = already_so (is_drained c.instances i)
refusal_of c (steps.Undrain i) = already_so (not (is_drained c.instances i))
refusal_of c (steps.Add name model ideal) = name_in_use c (newest c name)
refusal_of c (steps.Drop r) = if is_dropped c.resources r then Some faults.AlreadyDropped else None
refusal_of c (steps.SetList p list) = edit_fault is_semi p (list_fault (length c.instances) p.index list) (resource_at c.resources p.resource)
refusal_of c (steps.SetMap p map) = edit_fault is_custom p (map_fault (length c.instances) (states_of (model_of c.models c.resources p.resource)) p.index map) (resource_at c.resources p.resource)
refusal_of c (steps.Reset i p) = reset_fault c p (live_of c.live i)
refusal_of c (steps.Lead k) = lead_fault c k c.leader
refusal_of c (steps.Stop k) = already_so (is_down c k)
refusal_of c (steps.Start k) = already_so (not (is_down c k))

-- the cluster without a session, its rows, its messages and its flags
abbrev pub without : Cluster → SessionId → Cluster
without c s = record c {
  live = filter (λ l. not (l.session.0 == s.0)) c.live;
  rows = filter (λ r. not (r.session.0 == s.0)) c.rows;
  mail = filter (λ m. not (m.session.0 == s.0)) c.mail;
  resets = filter (λ f. not (f.0.0 == s.0)) c.resets;
  change = c.change + 1;
}

abbrev pub without_all : Cluster → List SessionId → Cluster
without_all c [] = c
without_all c (s ∷ ss) = without_all (without c s) ss

abbrev pub ended_of : Cluster → Option Live → Cluster
ended_of c None = c
ended_of c (Some l) = without c l.session

-- a beat sets the session's last beat to the clock and moves it behind the others
abbrev pub beaten_of : Cluster → Option Live → Cluster
beaten_of c None = c
beaten_of c (Some l) = record c { live = filter (λ x. not (is_session l.session x)) c.live ++ (record l { beat = c.clock }) ∷ [] }

-- the sessions that a tick ends
abbrev pub ended_by : Cluster → ℕ → List SessionId
ended_by c n = expired c.live (c.clock + n) c.timeout

-- the resources with one of them changed
abbrev pub changed_at : Cluster → ResourceId → (Resource → Resource) → Option Resource → Cluster
changed_at c r f None = c
changed_at c r f (Some x) = record c { resources = slice_set c.resources r.0 (f x); change = c.change + 1 }

abbrev pub with_resource : Cluster → ResourceId → (Resource → Resource) → Cluster
with_resource c r f = changed_at c r f (resource_at c.resources r)

abbrev pub with_mode : Resource → Mode → Resource
with_mode r mode = record r { ideal = record { replicas = r.ideal.replicas; parts = r.ideal.parts; mode = mode } }

-- flags stand by session, then part
abbrev pub flag_before : SessionId × PartId → SessionId × PartId → Bool
flag_before a b = nat_lt a.0.0 b.0.0 || ((a.0.0 == b.0.0) && part_before a.1 b.1)

abbrev pub with_flag : List (SessionId × PartId) → SessionId × PartId → List (SessionId × PartId)
with_flag flags f = insert_by flag_before f flags

abbrev pub asked_of : Cluster → PartId → Option Live → Cluster
asked_of c p None = c
asked_of c p (Some l) = record c { resets = with_flag c.resets (l.session, p); change = c.change + 1 }

-- a controller's mark
abbrev pub marked_down : Cluster → ControllerId → Bool → Option (Bool × PassNo) → Cluster
marked_down c k down None = c
marked_down c k down (Some d) = record c { controllers = slice_set c.controllers k.0 (down, d.1) }

abbrev pub with_down : Cluster → ControllerId → Bool → Cluster
with_down c k down = marked_down c k down (slice_get c.controllers k.0)

-- a leader that stops leaves nobody leading, and a new epoch
abbrev pub without_leader : ControllerId → Cluster → Cluster
without_leader k c = if is_leader k c.leader then record c { leader = None; epoch = record { 0 = c.epoch.0 + 1 } } else c

-- a resource as it is added
abbrev pub new_resource : ℕ → ModelId → IdealState → Resource
new_resource name model ideal = record { name = name; model = model; ideal = ideal; dropped = false }

-- the cluster after a step that isn't refused
abbrev pub after : Cluster → Admin → Cluster
after c (steps.Join i) = record c {
  live = c.live ++ (record { session = record { 0 = c.next_session }; instance = i; beat = c.clock }) ∷ [];
  next_session = c.next_session + 1;
  change = c.change + 1;
}
after c (steps.End i) = ended_of c (live_of c.live i)
after c (steps.Beat i) = beaten_of c (live_of c.live i)
after c (steps.Tick n) = without_all (record c { clock = c.clock + n }) (ended_by c n)
after c (steps.Drain i) = record c { instances = slice_set c.instances i.0 true; change = c.change + 1 }
after c (steps.Undrain i) = record c { instances = slice_set c.instances i.0 false; change = c.change + 1 }
after c (steps.Add name model ideal) = record c {
  resources = c.resources ++ new_resource name model ideal ∷ [];
  change = c.change + 1;
}
after c (steps.Drop r) = with_resource c r (λ x. record x { dropped = true })
after c (steps.SetList p list) = with_resource c p.resource (λ x. with_mode x (put_list x.ideal.mode p.index list))
after c (steps.SetMap p map) = with_resource c p.resource (λ x. with_mode x (put_map x.ideal.mode p.index map))
after c (steps.Reset i p) = asked_of c p (live_of c.live i)
after c (steps.Lead k) = record c { leader = Some k }
after c (steps.Stop k) = without_leader k (with_down c k true)
after c (steps.Start k) = with_down c k false

-- its answer
abbrev pub did_of : Cluster → Admin → Did
did_of c (steps.Join i) = dids.Joined (record { 0 = c.next_session })
did_of c (steps.Tick n) = dids.Ended (ended_by c n)
did_of c (steps.Add name model ideal) = dids.Added (record { 0 = length c.resources })
did_of c (steps.Lead k) = dids.Leads c.epoch
did_of c _ = dids.Done

-- the ids of a step are in range, and an added resource has only empty lists or maps
abbrev pub has_instance : Cluster → InstanceId → Bool
has_instance c i = nat_lt i.0 (length c.instances)

abbrev pub has_resource : Cluster → ResourceId → Bool
has_resource c r = nat_lt r.0 (length c.resources)

abbrev pub has_controller : Cluster → ControllerId → Bool
has_controller c k = nat_lt k.0 (length c.controllers)

abbrev pub is_empty_list : {X : Type 0} → List X → Bool
is_empty_list [] = true
is_empty_list (x ∷ xs) = false

abbrev pub is_bare_mode : ℕ → Mode → Bool
is_bare_mode parts modes.Full = true
is_bare_mode parts (modes.Semi lists) = (length lists == parts) && list_all is_empty_list lists
is_bare_mode parts (modes.Custom maps) = (length maps == parts) && list_all is_empty_list maps

abbrev pub is_bare : IdealState → Bool
is_bare ideal = nat_lt 0 ideal.replicas && nat_le ideal.replicas 64 && nat_lt 0 ideal.parts && nat_le ideal.parts 1024 && is_bare_mode ideal.parts ideal.mode

abbrev pub is_in_range : Cluster → Admin → Bool
is_in_range c (steps.Join i) = has_instance c i
is_in_range c (steps.End i) = has_instance c i
is_in_range c (steps.Beat i) = has_instance c i
is_in_range c (steps.Tick n) = true
is_in_range c (steps.Drain i) = has_instance c i
is_in_range c (steps.Undrain i) = has_instance c i
is_in_range c (steps.Add name model ideal) = nat_lt name c.resource_names && nat_lt model.0 (length c.models) && is_bare ideal
is_in_range c (steps.Drop r) = has_resource c r
is_in_range c (steps.SetList p list) = has_resource c p.resource
is_in_range c (steps.SetMap p map) = has_resource c p.resource
is_in_range c (steps.Reset i p) = has_instance c i && has_resource c p.resource
is_in_range c (steps.Lead k) = has_controller c k
is_in_range c (steps.Stop k) = has_controller c k
is_in_range c (steps.Start k) = has_controller c k
