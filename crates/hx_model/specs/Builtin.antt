-- The models that every description has.
use Rattle.std.specs.Prelude.{◌≡◌, ℕ, false, List, [], ◌∷◌, take, codes}
use Rattle.std.specs.Str.{bytes_eq}
use Rattle.hx_ids.specs.declared.StateId.{StateId}
use Rattle.hx_ids.specs.Names.{place_after, interned}
use Rattle.hx_model.specs.declared.Bound.TheVariants.{Count, Replicas, Free}
use Rattle.hx_model.specs.declared.ModelParts.{ModelParts}
use Rattle.hx_model.specs.Model.{dropped}

-- names of states: the first two are those that every model has
abbrev pub AreStates : List (List ℕ) → Type 0
AreStates names = take 2 names ≡ codes "ERROR" ∷ codes "DROPPED" ∷ []

-- the state of a name, by its place among the names
abbrev pub state_named : List (List ℕ) → List ℕ → StateId
state_named names name = record { 0 = place_after names name }

-- the replicas of a partition are online or not
abbrev pub on_and_off : StateId → StateId → ModelParts
on_and_off online offline = record {
  states = (online, Replicas) ∷ (offline, Free) ∷ [];
  initial = offline;
  transitions = (offline, online) ∷ (online, offline) ∷ (offline, dropped) ∷ [];
}

-- one of them leads, and the others that are wanted follow
abbrev pub one_leads : StateId → StateId → StateId → ModelParts
one_leads leader follower offline = record {
  states = (leader, Count 1) ∷ (follower, Replicas) ∷ (offline, Free) ∷ [];
  initial = offline;
  transitions = (leader, follower) ∷ (follower, leader) ∷ (offline, follower) ∷ (follower, offline) ∷ (offline, dropped) ∷ [];
}

-- each model at the places of its names, and the names with its own
abbrev pub master_slave_parts : List (List ℕ) → ModelParts
master_slave_parts names = one_leads (state_named names (codes "MASTER")) (state_named names (codes "SLAVE")) (state_named names (codes "OFFLINE"))

abbrev pub master_slave_names : List (List ℕ) → List (List ℕ)
master_slave_names names = interned (interned (interned names (codes "MASTER")) (codes "SLAVE")) (codes "OFFLINE")

abbrev pub online_offline_parts : List (List ℕ) → ModelParts
online_offline_parts names = on_and_off (state_named names (codes "ONLINE")) (state_named names (codes "OFFLINE"))

abbrev pub online_offline_names : List (List ℕ) → List (List ℕ)
online_offline_names names = interned (interned names (codes "ONLINE")) (codes "OFFLINE")

abbrev pub leader_standby_parts : List (List ℕ) → ModelParts
leader_standby_parts names = one_leads (state_named names (codes "LEADER")) (state_named names (codes "STANDBY")) (state_named names (codes "OFFLINE"))

abbrev pub leader_standby_names : List (List ℕ) → List (List ℕ)
leader_standby_names names = interned (interned (interned names (codes "LEADER")) (codes "STANDBY")) (codes "OFFLINE")

-- names of two states, neither of them the other, OFFLINE, or one that every model has
pub record AreNew (one two : List ℕ) : Type 0 where
  pub apart : bytes_eq one two ≡ false
  pub one_offline : bytes_eq one (codes "OFFLINE") ≡ false
  pub two_offline : bytes_eq two (codes "OFFLINE") ≡ false
  pub one_error : bytes_eq one (codes "ERROR") ≡ false
  pub two_error : bytes_eq two (codes "ERROR") ≡ false
  pub one_dropped : bytes_eq one (codes "DROPPED") ≡ false
  pub two_dropped : bytes_eq two (codes "DROPPED") ≡ false

-- the names of states and of models with which every description begins, and those models
abbrev pub builtin_states : List (List ℕ)
builtin_states =
    codes "ERROR" ∷ codes "DROPPED" ∷ codes "MASTER" ∷ codes "SLAVE" ∷ codes "OFFLINE" ∷ codes "ONLINE" ∷ codes "LEADER" ∷ codes "STANDBY" ∷ []

abbrev pub builtin_names : List (List ℕ)
builtin_names = codes "MasterSlave" ∷ codes "OnlineOffline" ∷ codes "LeaderStandby" ∷ []

abbrev pub builtin_models : List ModelParts
builtin_models =
    master_slave_parts builtin_states ∷ online_offline_parts builtin_states ∷ leader_standby_parts builtin_states ∷ []
