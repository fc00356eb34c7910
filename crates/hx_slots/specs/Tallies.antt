-- What the numbers that are kept count: ends in states that have a limit, and the messages that each rule counts under each key.
use Rattle.std.specs.Prelude.{◌≡◌, ℕ, ◌+◌, ◌-◌, Bool, true, false, not, ◌==◌, ◌&&◌, List, [], ◌∷◌, Option, None, Some, slice_get, nat_le, if◌then◌else◌}
use Rattle.hx_ids.specs.declared.InstanceId.{InstanceId}
use Rattle.hx_ids.specs.declared.StateId.{StateId}
use Rattle.hx_ids.specs.declared.MsgId.{MsgId}
use Rattle.hx_ids.specs.declared.PartId.{PartId}
use Rattle.hx_model.specs.declared.Bound.{Bound}
use Rattle.hx_model.specs.declared.Bound.TheVariants.{Free}
use Rattle.hx_model.specs.declared.ModelParts.{ModelParts}
use Rattle.hx_model.specs.Model.{bound_of}
use Rattle.hx_cluster.specs.declared.description.Resource.{Resource}
use Rattle.hx_cluster.specs.declared.description.Rule.{Rule}
use Rattle.hx_cluster.specs.declared.description.Scope.{Scope}
use Rattle.hx_cluster.specs.declared.description.Scope.TheVariants as scopes
use Rattle.hx_cluster.specs.declared.state.Message.{Message}
use Rattle.hx_cluster.specs.declared.state.Cluster.{Cluster}
use Rattle.hx_cluster.specs.declared.happenings.Proposal.{Proposal}
use Rattle.hx_cluster.specs.declared.happenings.Placed.{Placed}
use Rattle.hx_cluster.specs.declared.happenings.Placed.TheVariants as placings
use Rattle.hx_cluster.specs.Ends.{part_eq, message_at, model_of, matches, count_of, load_of}
use Rattle.hx_counts.specs.Tally.{Numbers, ends_of, loads_of}

-- whether a state of a part has a limit
abbrev pub is_free : Bound → Bool
is_free Free = true
is_free _ = false

abbrev pub is_limited : List ModelParts → List Resource → PartId → StateId → Bool
is_limited models resources p t = not (is_free (bound_of (model_of models resources p.resource) t))

-- whether a replica stands in a state
abbrev pub stands_at : StateId → Option StateId → Bool
stands_at t None = false
stands_at t (Some s) = s.0 == t.0

-- what a message adds to the count of a part's state, beside the state that its replica has
abbrev pub adds : Option StateId → Message → StateId → Bool
adds has m t = message_at t (Some m) && not (stands_at t has)

abbrev pub end_added : Cluster → Option StateId → Message → PartId → StateId → ℕ
end_added c has m p t = if part_eq m.part p && is_limited c.models c.resources p t && adds has m t then 1 else 0

-- what a row adds, where no message is pending
abbrev pub row_added : Cluster → PartId → StateId → PartId → StateId → ℕ
row_added c q s p t = if part_eq q p && is_limited c.models c.resources p t && (s.0 == t.0) then 1 else 0

-- what a message adds to the load of a rule, by its place, under a key, where its session is on this instance
abbrev pub key_on : Scope → InstanceId → PartId → ℕ
key_on scopes.Cluster i p = 0
key_on scopes.Instance i p = i.0
key_on scopes.Resource i p = p.resource.0

abbrev pub is_loaded : Option Rule → ℕ → InstanceId → Message → Bool
is_loaded None key i m = false
is_loaded (Some r) key i m = matches r m.from m.to && (key_on r.scope i m.part == key)

abbrev pub load_added : Cluster → InstanceId → Message → ℕ → ℕ → ℕ
load_added c i m n key = if is_loaded (slice_get c.rules n) key i m then 1 else 0

-- the numbers with a message more, or less
pub record IsRaised (c : Cluster) (i : InstanceId) (has : Option StateId) (m : Message) (old new : Numbers) : Type 0 where
  pub ends : (p : PartId) (t : StateId) → ends_of new p t ≡ ends_of old p t + end_added c has m p t
  pub loads : (n key : ℕ) → loads_of new n key ≡ loads_of old n key + load_added c i m n key

pub record IsLowered (c : Cluster) (i : InstanceId) (has : Option StateId) (m : Message) (old new : Numbers) : Type 0 where
  pub ends : (p : PartId) (t : StateId) → ends_of new p t ≡ ends_of old p t - end_added c has m p t
  pub loads : (n key : ℕ) → loads_of new n key ≡ loads_of old n key - load_added c i m n key

-- the numbers with a row less
pub record IsRowLowered (c : Cluster) (q : PartId) (s : StateId) (old new : Numbers) : Type 0 where
  pub ends : (p : PartId) (t : StateId) → ends_of new p t ≡ ends_of old p t - row_added c q s p t
  pub loads : (n key : ℕ) → loads_of new n key ≡ loads_of old n key

-- the same numbers
pub record IsUnchanged (old new : Numbers) : Type 0 where
  pub ends : (p : PartId) (t : StateId) → ends_of new p t ≡ ends_of old p t
  pub loads : (n key : ℕ) → loads_of new n key ≡ loads_of old n key

-- the numbers are those of a cluster: its counts where the state has a limit, and its loads
abbrev pub load_at : Cluster → Option Rule → ℕ → ℕ
load_at c None key = 0
load_at c (Some r) key = load_of c r key

pub record IsCounted (c : Cluster) (k : Numbers) : Type 0 where
  pub ends : (p : PartId) (t : StateId) → ends_of k p t ≡ (if is_limited c.models c.resources p t then count_of c p t else 0)
  pub loads : (n key : ℕ) → loads_of k n key ≡ load_at c (slice_get c.rules n) key

-- the numbers once a row is put while a message is pending: the state that the replica had counts no longer, unless it is an end of
-- the message
abbrev pub IsLeft : Cluster → PartId → StateId → Bool → Numbers → Numbers → Type 0
IsLeft c q s true old new = IsUnchanged old new
IsLeft c q s false old new = IsRowLowered c q s old new

abbrev pub IsPut : Cluster → Message → Option StateId → Numbers → Numbers → Type 0
IsPut c m None old new = IsUnchanged old new
IsPut c m (Some s) old new = IsLeft c m.part s (message_at s (Some m)) old new

-- the answer to a proposal by the kept loads, from the rule with number n on: the first rule that has no room for it, or it is sent
abbrev pub throttled_by : Numbers → MsgId → InstanceId → Proposal → ℕ → List Rule → Placed
throttled_by k next i q n [] = placings.Sent next
throttled_by k next i q n (r ∷ rs) =
    if matches r q.from q.to && nat_le r.limit (loads_of k n (key_on r.scope i q.part))
    then placings.OverThrottle n (loads_of k n (key_on r.scope i q.part)) r.limit
    else throttled_by k next i q (n + 1) rs

-- a state that is limited and has no room refuses it
abbrev pub bounded_by : Numbers → MsgId → InstanceId → Proposal → List Rule → Option ℕ → Placed
bounded_by k next i q rules None = throttled_by k next i q 0 rules
bounded_by k next i q rules (Some limit) =
    if nat_le limit (ends_of k q.part q.to)
    then placings.OverBound (ends_of k q.part q.to) limit
    else throttled_by k next i q 0 rules
