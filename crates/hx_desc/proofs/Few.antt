-- A description that is read has few states, models and resources.
use Rattle.std.proofs.Common.{◌≡◌, ℕ, ◌≤◌, List, length, Ok, arith}
use Rattle.hx_cluster.specs.declared.description.Spec.{Spec}
use Rattle.hx_desc.specs.Description.{input_spec}
use Rattle.hx_desc.proofs.ValidSpec.{input_valid, input_names}

pub record IsSmall (spec : Spec) : Type 0 where
  pub models : length spec.model_names ≤ 256
  pub states : length spec.states ≤ 256
  pub names : length spec.resource_names ≤ 256

pub input_small : (bytes : List ℕ) (spec : Spec) → input_spec bytes ≡ Ok spec → IsSmall spec
input_small bytes spec is =
    let valid = input_valid bytes spec is in
    record { models = omega (arith, valid.each_named, valid.few_models); states = valid.few_states; names = input_names bytes spec is }
