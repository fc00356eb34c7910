-- What holds of the ids in every cluster that can be reached from a valid description.
use Rattle.std.specs.Prelude.{◌≡◌, ◌≤◌, Bool, true, ◌&&◌, length, nat_lt}
use Rattle.std.specs.List.{list_all}
use Rattle.std.specs.Option.{option_map_or}
use Rattle.hx_cluster.specs.declared.description.Resource.{Resource}
use Rattle.hx_cluster.specs.declared.state.Cluster.{Cluster}
use Rattle.hx_cluster.specs.Steps.{has_instance, has_controller}
use Rattle.hx_cluster.specs.Events.{is_postable}
use Rattle.hx_cluster.specs.Valid.{is_within, is_valid_model, is_valid_rule, has_good_ideal}

-- a resource has a name and a model, and its ideal state has no fault: one list or map for each part, of instances in range, each
-- once, and of states of the model
abbrev pub is_ranged_resource : Cluster → Resource → Bool
is_ranged_resource c r =
    nat_lt r.name c.resource_names && nat_lt r.model.0 (length c.models) && has_good_ideal (length c.instances) c.models r

pub record IsRanged (c : Cluster) : Type 0 where
  -- what no step changes
  pub instances : is_within 1 64 (length c.instances) ≡ true
  pub controllers : is_within 1 16 (length c.controllers) ≡ true
  pub states : c.states ≤ 256
  pub models : list_all (is_valid_model c.states) c.models ≡ true
  pub few_models : length c.models ≤ 8
  pub rules : list_all (is_valid_rule c.states) c.rules ≡ true
  pub few_rules : length c.rules ≤ 16
  -- what steps change
  pub resources : list_all (is_ranged_resource c) c.resources ≡ true
  pub few_resources : length c.resources ≤ 256
  pub live : list_all (λ l. has_instance c l.instance) c.live ≡ true
  pub leader : option_map_or (has_controller c) c.leader true ≡ true
  pub posted : list_all (is_postable c) c.posted ≡ true
