-- Each description that is read is valid.
use Rattle.std.proofs.Common.{◌≡◌, ℕ, ◌-◌, ◌^◌, ◌≤◌, Bool, true, false, List, [], length, Option, None, Some, Result, Ok, Err, inl, inr, refl, subst, rules, arith}
use Rattle.std.specs.Prelude.{if◌then◌else◌, IfOk, codes}
use Rattle.serde_json.specs.Data.{Data, Members}
use Rattle.hx_text.specs.Lines.{cut_of}
use Rattle.hx_model.specs.declared.ModelParts.{ModelParts}
use Rattle.hx_cluster.specs.declared.description.Spec.{Spec}
use Rattle.hx_cluster.specs.declared.description.Resource.{Resource}
use Rattle.hx_cluster.specs.declared.description.Failure.{Failure}
use Rattle.hx_forms.specs.declared.faults.DescRefusal.{DescRefusal}
use Rattle.hx_forms.specs.Reading.{Reads}
use Rattle.hx_forms.specs.Found.{within, number_in, object_in, required, optional}
use Rattle.hx_forms.proofs.Chains.{then_ok, ok_same, within_ok, optional_ok, number_range}
use Rattle.hx_forms.specs.ModelForm.{built_in, models_in}
use Rattle.hx_desc.specs.Demo.{demo}
use Rattle.hx_desc.specs.RuleForm.{rules_in}
use Rattle.hx_desc.specs.ResourceForm.{resources_in}
use Rattle.hx_desc.specs.FailureForm.{failures_in}
use Rattle.hx_desc.specs.Description.{keys, instances_in, described, described_if, json_of, is_demo, spec_of, spec_before, input_spec}
use Rattle.hx_cluster.specs.Valid.{IsValid, is_within, is_valid_model, is_valid_resource, is_valid_failure, same_name}
use Rattle.hx_desc.proofs.Room.{few_along}
use Rattle.hx_desc.proofs.Each.{each_test, distinct_once}
use Rattle.hx_desc.proofs.Names.{valid_names}
use Rattle.hx_desc.proofs.ValidInstances.{instances_read}
use Rattle.hx_desc.proofs.ValidModels.{IsModel, valid_model, first_eight, first_three, first_three_models, models_read}
use Rattle.hx_desc.proofs.ValidRules.{in_bounds, rules_read}
use Rattle.hx_desc.proofs.ValidResources.{IsResource, names_flip, name_self, resource_test, no_resources, resources_read}
use Rattle.hx_desc.proofs.ValidFailures.{is_failure, failures_read}

-- a number that may be there
number_there : (name : List ℕ) (least most default : ℕ) → is_within least most default ≡ true → (members : Members) (n : ℕ) → optional name default (number_in least most) members ≡ Ok n → is_within least most n ≡ true
number_there name least most default good members n is = elim (optional_ok name default (number_in least most) members n is) [
  | inl same ↦ subst (λ (m : ℕ). is_within least most m ≡ true) same good
  | inr read ↦ in_bounds least most n (number_range least most read.0 n read.1)
]

-- what is read is valid, and has few names of resources
record IsRead (spec : Spec) : Type 0 where
  valid : IsValid spec
  few_names : length spec.resource_names ≤ 256

described_valid : (d : Data) (spec : Spec) → described d ≡ Ok spec → IsRead spec
described_valid d spec is =
    let members = then_ok (object_in keys d) _ spec is in
    let version = then_ok (required (codes "version") (number_in 1 1) members.0) _ spec members.2 in
    let controllers = then_ok (optional (codes "controllers") 1 (number_in 1 16) members.0) _ spec version.2 in
    let timeout = then_ok (optional (codes "timeout") 30 (number_in 1 (2 ^ 64 - 1)) members.0) _ spec controllers.2 in
    let instances = then_ok (required (codes "instances") instances_in members.0) _ spec timeout.2 in
    let models = then_ok (optional (codes "models") built_in models_in members.0) _ spec instances.2 in
    let rules = then_ok (optional (codes "throttles") [] (rules_in models.0.states) members.0) _ spec models.2 in
    let table = then_ok (optional (codes "resources") no_resources (resources_in instances.0 models.0) members.0) _ spec rules.2 in
    let failures = then_ok (optional (codes "failures") [] (failures_in instances.0 table.0) members.0) _ spec table.2 in
    let good_instances = instances_read members.0 instances.0 instances.1 in
    let few_models = models_read members.0 models.0 models.1 in
    let good_models = few_models.good in
    let good_rules = rules_read models.0.states members.0 rules.0 rules.1 in
    let few_resources = resources_read instances.0 models.0 good_models.named members.0 table.0 table.1 in
    let good_resources = few_resources.good in
    let good_failures = failures_read instances.0 table.0 members.0 failures.0 failures.1 in
    let whole : Spec = record {
      instances = instances.0;
      states = models.0.states;
      resource_names = table.0.names;
      model_names = models.0.names;
      models = models.0.models;
      controllers = controllers.0;
      timeout = timeout.0;
      rules = rules.0;
      resources = table.0.resources;
      failures = failures.0;
    } in
    let good : IsValid whole = record {
      instances = valid_names instances.0 good_instances.names;
      some_instances = in_bounds 1 64 (length instances.0) good_instances.some;
      controllers = number_there (codes "controllers") 1 16 1 refl members.0 controllers.0 controllers.1;
      timeout = number_there (codes "timeout") 1 (2 ^ 64 - 1) 30 refl members.0 timeout.0 timeout.1;
      states = valid_names models.0.states good_models.states;
      few_states = few_models.few_states;
      builtin_states = first_eight models.0.states good_models.first_states;
      models = each_test (λ (m : ModelParts). IsModel (length models.0.states) m) (is_valid_model (length models.0.states)) (valid_model (length models.0.states)) models.0.models good_models.each;
      few_models = few_models.few_models;
      builtin_models = first_three_models models.0.models good_models.first_models;
      model_names = valid_names models.0.names good_models.names;
      builtin_names = first_three models.0.names good_models.first_names;
      each_named = good_models.named;
      rules = good_rules.each;
      few_rules = good_rules.few;
      resource_names = valid_names table.0.names good_resources.names;
      resources = each_test (λ (r : Resource). IsResource (length instances.0) models.0.models (length table.0.names) r) (is_valid_resource whole) (λ r good. resource_test (length instances.0) models.0.models (length table.0.names) r good) table.0.resources good_resources.each;
      few_resources = few_resources.few;
      apart = distinct_once same_name name_self names_flip table.0.resources good_resources.apart;
      failures = each_test (λ (f : Failure). is_failure (length instances.0) table.0.resources f ≡ true) (is_valid_failure whole) (λ f good. good) failures.0 good_failures.each;
      few_failures = good_failures.few;
    } in
    subst IsRead (ok_same whole spec failures.2) (record { valid = good; few_names = few_along _ _ good_resources.named few_resources.few })

json_valid : (o : Option Data) (spec : Spec) → described_if o ≡ Ok spec → IsRead spec
json_valid None spec is = cc
json_valid (Some d) spec is = described_valid d spec is

demo_valid : IsValid demo
demo_valid = search (rules, arith)

spec_valid : (bytes : List ℕ) (spec : Spec) → spec_of bytes ≡ Ok spec → IsRead spec
spec_valid bytes spec is = one (is_demo bytes) is
  where
    one : (b : Bool) → (if b then Ok demo else within (codes "$") (described_if (json_of bytes))) ≡ Ok spec → IsRead spec
    one true is = subst IsRead (ok_same demo spec is) (record { valid = demo_valid; few_names = omega arith })
    one false is = json_valid (json_of bytes) spec (within_ok (codes "$") (described_if (json_of bytes)) spec is)

-- so is what a reader answers that reads it
pub valid_answer : (bytes : List ℕ) (r : Result Spec DescRefusal) → Reads r (spec_of bytes) → IfOk r IsValid
valid_answer bytes (Ok spec) reads = (spec_valid bytes spec reads).valid
valid_answer bytes (Err e) reads = tt

halves_valid : (o : Option (List ℕ × List ℕ)) (spec : Spec) → spec_before o ≡ Ok spec → IsRead spec
halves_valid None spec is = cc
halves_valid (Some halves) spec is = spec_valid halves.0 spec is

-- the law: each description that is read is valid
pub input_valid : (bytes : List ℕ) (spec : Spec) → input_spec bytes ≡ Ok spec → IsValid spec
input_valid bytes spec is = (halves_valid (cut_of bytes) spec is).valid

pub input_names : (bytes : List ℕ) (spec : Spec) → input_spec bytes ≡ Ok spec → length spec.resource_names ≤ 256
input_names bytes spec is = (halves_valid (cut_of bytes) spec is).few_names
