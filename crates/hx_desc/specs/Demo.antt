-- The demo: three instances, two controllers, and a resource of two partitions, each with two replicas.
use Rattle.std.specs.Prelude.{ℕ, false, List, [], ◌∷◌, map, codes}
use Rattle.hx_ids.specs.declared.InstanceId.{InstanceId}
use Rattle.hx_ids.specs.Words.{instance, model}
use Rattle.hx_ideal.specs.declared.Mode.TheVariants.{Semi}
use Rattle.hx_cluster.specs.declared.description.Spec.{Spec}
use Rattle.hx_forms.specs.ModelForm.{built_in}

abbrev pub instances_of : List ℕ → List InstanceId
instances_of numbers = map instance numbers

abbrev pub demo : Spec
demo = record {
  instances = codes "n1" ∷ codes "n2" ∷ codes "n3" ∷ [];
  states = built_in.states;
  resource_names = codes "db" ∷ [];
  model_names = built_in.names;
  models = built_in.models;
  controllers = 2;
  timeout = 30;
  rules = [];
  resources = (record {
    name = 0;
    model = model 1;
    ideal = record { replicas = 2; parts = 2; mode = Semi (instances_of (0 ∷ 1 ∷ 2 ∷ []) ∷ instances_of (1 ∷ 2 ∷ 0 ∷ []) ∷ []) };
    dropped = false;
  }) ∷ [];
  failures = [];
}
