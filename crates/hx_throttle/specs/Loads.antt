-- The loads of rules, in a table.
use Rattle.std.specs.Prelude.{◌≡◌, ℕ, Bool, ◌==◌, ◌&&◌, List, Some, slice_get}
use Rattle.std.specs.Option.{option_map_or}
use Rattle.hx_ids.specs.declared.InstanceId.{InstanceId}
use Rattle.hx_ids.specs.declared.SessionId.{SessionId}
use Rattle.hx_cluster.specs.declared.description.Rule.{Rule}
use Rattle.hx_cluster.specs.declared.description.Scope.{Scope}
use Rattle.hx_cluster.specs.declared.description.Scope.TheVariants as scopes
use Rattle.hx_cluster.specs.declared.happenings.Proposal.{Proposal}
use Rattle.hx_cluster.specs.declared.planning.Candidate.{Candidate}
use Rattle.hx_cluster.specs.declared.planning.Held.{Held}
use Rattle.hx_cluster.specs.Ends.{matches, instance_in}
use Rattle.hx_throttle.specs.declared.loads.Holding.{Holding}
use Rattle.hx_throttle.specs.declared.shown.Keyed.{Keyed}
use Rattle.hx_throttle.specs.Table.{Table, load_at}

-- the table has the load of each rule, by its place, under each key
abbrev pub AreLoads : List Rule → (Rule → ℕ → ℕ) → Table → Type 0
AreLoads rules load table = (n : ℕ) (r : Rule) (key : ℕ) → slice_get rules n ≡ Some r → load_at table n key ≡ load r key

-- a transition, with the instance of its session, if the session is live
abbrev pub keyed_of : List (SessionId × InstanceId) → Proposal → Keyed
keyed_of live q = record { from = q.from; to = q.to; part = q.part; instance = instance_in live q.session }

-- the key under which a scope counts it
abbrev pub key_in : Scope → Keyed → ℕ
key_in scopes.Cluster k = 0
key_in scopes.Instance k = option_map_or (λ i. i.0) k.instance 0
key_in scopes.Resource k = k.part.resource.0

-- whether a rule counts it under a key
abbrev pub counts_under : Rule → ℕ → Keyed → Bool
counts_under r key k = matches r k.from k.to && (key_in r.scope k == key)

-- the transition of a candidate
abbrev pub transition_of : Candidate → Proposal
transition_of c = record { session = c.session; part = c.part; from = c.from; to = c.to }

-- a candidate that a rule holds back
abbrev pub held_as : Candidate → Holding → Held
held_as c h = record { candidate = c; rule = h.rule; load = h.load; limit = h.limit }
