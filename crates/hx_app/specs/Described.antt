-- The cluster that the description of a seed and a size describes.
use Rattle.std.specs.Prelude.{ℕ, false, None, List, [], ◌∷◌, map}
use Rattle.hx_ids.specs.Words.{instance, model}
use Rattle.hx_ids.specs.declared.InstanceId.{InstanceId}
use Rattle.hx_ideal.specs.declared.Mode.TheVariants.{Semi}
use Rattle.hx_ideal.specs.IdealState.{IdealState}
use Rattle.hx_cluster.specs.declared.description.Rule.{Rule}
use Rattle.hx_cluster.specs.declared.description.Scope.TheVariants.{Instance}
use Rattle.hx_cluster.specs.declared.description.Spec.{Spec}
use Rattle.hx_desc.specs.Demo.{demo}
use Rattle.hx_genwork.specs.Made.{lists_after}
use Rattle.hx_app.specs.Asked.{all_names}

-- the lists by the ids of the instances
abbrev pub preferences : List (List ℕ) → List (List InstanceId)
preferences lists = map (λ list. map instance list) lists

-- four messages at a time for each instance
abbrev pub four_each : Rule
four_each = record { scope = Instance; transition = None; limit = 4 }

abbrev pub made_ideal : ℕ → ℕ → IdealState
made_ideal seed size = record { replicas = 3; parts = size; mode = Semi (preferences (lists_after seed size)) }

-- the rest as in the demo's description
abbrev pub made_spec : ℕ → ℕ → Spec
made_spec seed size = record demo {
  instances = all_names;
  rules = four_each ∷ [];
  resources = (record { name = 0; model = model 0; ideal = made_ideal seed size; dropped = false }) ∷ [];
}
