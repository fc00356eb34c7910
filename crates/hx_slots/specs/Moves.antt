-- The numbers as single ends and single rules are counted.
use Rattle.std.specs.Prelude.{◌≡◌, ℕ, ◌+◌, ◌-◌, not, ◌==◌, ◌&&◌, Option, Some, if◌then◌else◌, nat_lt}
use Rattle.hx_ids.specs.declared.InstanceId.{InstanceId}
use Rattle.hx_ids.specs.declared.StateId.{StateId}
use Rattle.hx_ids.specs.declared.PartId.{PartId}
use Rattle.hx_cluster.specs.declared.description.Rule.{Rule}
use Rattle.hx_cluster.specs.declared.state.Message.{Message}
use Rattle.hx_cluster.specs.declared.state.Cluster.{Cluster}
use Rattle.hx_cluster.specs.Ends.{part_eq}
use Rattle.hx_counts.specs.Tally.{Numbers, ends_of, loads_of}
use Rattle.hx_slots.specs.Tallies.{is_limited, stands_at, end_added, is_loaded, load_added}

-- what a state adds beside the state that the replica has
abbrev pub state_added : Cluster → PartId → Option StateId → StateId → PartId → StateId → ℕ
state_added c q has s p t = if part_eq q p && is_limited c.models c.resources p t && ((s.0 == t.0) && not (stands_at t has)) then 1 else 0

pub record IsEndRaised (c : Cluster) (q : PartId) (has : Option StateId) (s : StateId) (old new : Numbers) : Type 0 where
  pub ends : (p : PartId) (t : StateId) → ends_of new p t ≡ ends_of old p t + state_added c q has s p t
  pub loads : (n key : ℕ) → loads_of new n key ≡ loads_of old n key

pub record IsEndLowered (c : Cluster) (q : PartId) (has : Option StateId) (s : StateId) (old new : Numbers) : Type 0 where
  pub ends : (p : PartId) (t : StateId) → ends_of new p t ≡ ends_of old p t - state_added c q has s p t
  pub loads : (n key : ℕ) → loads_of new n key ≡ loads_of old n key

pub record AreEndsRaised (c : Cluster) (has : Option StateId) (m : Message) (old new : Numbers) : Type 0 where
  pub ends : (p : PartId) (t : StateId) → ends_of new p t ≡ ends_of old p t + end_added c has m p t
  pub loads : (n key : ℕ) → loads_of new n key ≡ loads_of old n key

pub record AreEndsLowered (c : Cluster) (has : Option StateId) (m : Message) (old new : Numbers) : Type 0 where
  pub ends : (p : PartId) (t : StateId) → ends_of new p t ≡ ends_of old p t - end_added c has m p t
  pub loads : (n key : ℕ) → loads_of new n key ≡ loads_of old n key

-- what a message adds under a key to the load of the rule at a place
abbrev pub rule_added : Rule → ℕ → InstanceId → Message → ℕ → ℕ → ℕ
rule_added r place i m n key = if (n == place) && is_loaded (Some r) key i m then 1 else 0

pub record IsRuleRaised (r : Rule) (place : ℕ) (i : InstanceId) (m : Message) (old new : Numbers) : Type 0 where
  pub ends : (p : PartId) (t : StateId) → ends_of new p t ≡ ends_of old p t
  pub loads : (n key : ℕ) → loads_of new n key ≡ loads_of old n key + rule_added r place i m n key

pub record IsRuleLowered (r : Rule) (place : ℕ) (i : InstanceId) (m : Message) (old new : Numbers) : Type 0 where
  pub ends : (p : PartId) (t : StateId) → ends_of new p t ≡ ends_of old p t
  pub loads : (n key : ℕ) → loads_of new n key ≡ loads_of old n key - rule_added r place i m n key

-- all rules, and the first so many
pub record AreLoadsRaised (c : Cluster) (i : InstanceId) (m : Message) (old new : Numbers) : Type 0 where
  pub ends : (p : PartId) (t : StateId) → ends_of new p t ≡ ends_of old p t
  pub loads : (n key : ℕ) → loads_of new n key ≡ loads_of old n key + load_added c i m n key

pub record AreLoadsLowered (c : Cluster) (i : InstanceId) (m : Message) (rules : ℕ) (old new : Numbers) : Type 0 where
  pub ends : (p : PartId) (t : StateId) → ends_of new p t ≡ ends_of old p t
  pub loads : (n key : ℕ) → loads_of new n key ≡ loads_of old n key - (if nat_lt n rules then load_added c i m n key else 0)
