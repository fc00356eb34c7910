-- A small cluster for examples.
use Rattle.std.specs.Prelude.{false, [], ◌∷◌, codes}
use Rattle.hx_ids.specs.Words.{instance, model}
use Rattle.hx_model.specs.Builtin.{builtin_states, builtin_names, builtin_models}
use Rattle.hx_ideal.specs.declared.Mode.TheVariants as modes
use Rattle.hx_cluster.specs.declared.description.Spec.{Spec}

-- one instance, and one partition that it is to lead
abbrev pub spec : Spec
spec = record {
  instances = codes "n1" ∷ [];
  states = builtin_states;
  resource_names = codes "db" ∷ [];
  model_names = builtin_names;
  models = builtin_models;
  controllers = 1;
  timeout = 30;
  rules = [];
  resources = record { name = 0; model = model 0; ideal = record { replicas = 1; parts = 1; mode = modes.Semi ((instance 0 ∷ []) ∷ []) }; dropped = false } ∷ [];
  failures = [];
}
