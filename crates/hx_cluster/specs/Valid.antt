-- Valid descriptions. Every call that is given a description needs a valid one, and each description that is read is.
use Rattle.std.specs.Prelude.{◌≡◌, ℕ, ◌≤◌, ◌-◌, ◌^◌, Bool, true, not, ◌==◌, ◌&&◌, List, length, take, is_none, nat_lt, nat_le}
use Rattle.std.specs.List.{list_all}
use Rattle.std.specs.Option.{option_map_or}
use Rattle.std.specs.Str.{bytes_eq}
use Rattle.hx_lists.specs.Lists.{count}
use Rattle.hx_ids.specs.declared.StateId.{StateId}
use Rattle.hx_text.specs.Spellings.{is_name}
use Rattle.hx_model.specs.declared.ModelParts.{ModelParts}
use Rattle.hx_model.specs.Model.{error, dropped, states_of}
use Rattle.hx_model.specs.Faults as models
use Rattle.hx_model.specs.Builtin.{builtin_states, builtin_names, builtin_models}
use Rattle.hx_ideal.specs.Faults as ideals
use Rattle.hx_cluster.specs.declared.description.Spec.{Spec}
use Rattle.hx_cluster.specs.declared.description.Rule.{Rule}
use Rattle.hx_cluster.specs.declared.description.Resource.{Resource}
use Rattle.hx_cluster.specs.declared.description.Failure.{Failure}
use Rattle.hx_cluster.specs.Ends.{model_at, parts_of}

-- each item stands once
abbrev pub are_distinct : {X : Type 0} → (X → X → Bool) → List X → Bool
are_distinct same xs = list_all (λ x. count (same x) xs == 1) xs

-- names of the grammar
abbrev pub are_names : List (List ℕ) → Bool
are_names names = list_all is_name names && are_distinct bytes_eq names

-- a number within two bounds
abbrev pub is_within : ℕ → ℕ → ℕ → Bool
is_within least most n = nat_le least n && nat_le n most

-- a model without fault, whose states have names
abbrev pub has_no_fault : ModelParts → Bool
has_no_fault m = is_none (models.fault_of m)

abbrev pub is_named_state : ℕ → StateId → Bool
is_named_state states t = nat_lt t.0 states

abbrev pub is_valid_model : ℕ → ModelParts → Bool
is_valid_model states m = has_no_fault m && list_all (is_named_state states) (states_of m)

-- a rule that lets one message pass at least. Its transition is between states with names, from none that is DROPPED, to none that is ERROR
abbrev pub is_counted_transition : ℕ → StateId × StateId → Bool
is_counted_transition states t =
    is_named_state states t.0 && is_named_state states t.1 && not (t.0.0 == dropped.0) && not (t.1.0 == error.0)

abbrev pub is_valid_rule : ℕ → Rule → Bool
is_valid_rule states r = is_within 1 65535 r.limit && option_map_or (is_counted_transition states) r.transition true

-- an ideal state without fault, over so many instances and the states of a model
abbrev pub has_good_ideal : ℕ → List ModelParts → Resource → Bool
has_good_ideal instances models r =
    is_none (ideals.fault_of r.ideal.replicas r.ideal.parts r.ideal.mode instances (states_of (model_at models r.model)))

-- a resource with a name and a model, that isn't dropped
abbrev pub is_valid_resource : Spec → Resource → Bool
is_valid_resource spec r =
    nat_lt r.name (length spec.resource_names) && nat_lt r.model.0 (length spec.models) && not r.dropped
    && has_good_ideal (length spec.instances) spec.models r

abbrev pub same_name : Resource → Resource → Bool
same_name a b = a.name == b.name

-- a failure of one of the parts on one of the instances
abbrev pub is_valid_failure : Spec → Failure → Bool
is_valid_failure spec f =
    nat_lt f.instance.0 (length spec.instances) && nat_lt f.part.index (parts_of spec.resources f.part.resource) && is_within 1 1000000 f.number

pub record IsValid (spec : Spec) : Type 0 where
  pub instances : are_names spec.instances ≡ true
  pub some_instances : is_within 1 64 (length spec.instances) ≡ true
  pub controllers : is_within 1 16 spec.controllers ≡ true
  pub timeout : is_within 1 (2 ^ 64 - 1) spec.timeout ≡ true
  -- the models that every description has stand first, and so do their states
  pub states : are_names spec.states ≡ true
  pub few_states : length spec.states ≤ 256
  pub builtin_states : take 8 spec.states ≡ builtin_states
  pub models : list_all (is_valid_model (length spec.states)) spec.models ≡ true
  pub few_models : length spec.models ≤ 8
  pub builtin_models : take 3 spec.models ≡ builtin_models
  pub model_names : are_names spec.model_names ≡ true
  pub builtin_names : take 3 spec.model_names ≡ builtin_names
  pub each_named : length spec.model_names ≡ length spec.models
  pub rules : list_all (is_valid_rule (length spec.states)) spec.rules ≡ true
  pub few_rules : length spec.rules ≤ 16
  pub resource_names : are_names spec.resource_names ≡ true
  pub resources : list_all (is_valid_resource spec) spec.resources ≡ true
  pub few_resources : length spec.resources ≤ 256
  pub apart : are_distinct same_name spec.resources ≡ true
  pub failures : list_all (is_valid_failure spec) spec.failures ≡ true
  pub few_failures : length spec.failures ≤ 1024
