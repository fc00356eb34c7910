-- Steps of the definitions that functions of their own read, and the whole that is made of them. No public clause cites this module.
use Rattle.std.specs.Prelude.{ℕ, List, [], Option, None, Ok, codes}
use Rattle.serde_json.specs.Data.{Members}
use Rattle.hx_ids.specs.declared.ModelId.{ModelId}
use Rattle.hx_ids.specs.declared.StateId.{StateId}
use Rattle.hx_model.specs.Model.{error, dropped}
use Rattle.hx_ideal.specs.IdealState.{IdealState}
use Rattle.hx_cluster.specs.declared.description.Failure.{Failure}
use Rattle.hx_cluster.specs.declared.description.Rule.{Rule}
use Rattle.hx_cluster.specs.Ends.{model_at}
use Rattle.hx_forms.specs.Found.{Found, ◌>>=◌, required, optional}
use Rattle.hx_forms.specs.declared.tables.ModelTable.{ModelTable}
use Rattle.hx_desc.specs.declared.tables.ResourceTable.{ResourceTable}
use Rattle.hx_desc.specs.RuleForm.{end_in, transition_of, rules_in}
use Rattle.hx_desc.specs.ResourceForm.{model_id_in, ideal_in, resources_in}
use Rattle.hx_desc.specs.FailureForm.{failures_in}

-- the transition that a rule counts
abbrev pub transition_in : {A : Type 0} → List (List ℕ) → (Option (StateId × StateId) → A) → Members → Found A
transition_in states whole members = do
  from ← optional (codes "from") None (end_in states dropped) members
  to ← optional (codes "to") None (end_in states error) members
  transition ← transition_of from to
  Ok (whole transition)

-- the model of a resource, and its ideal state over that
abbrev pub placement_in : {A : Type 0} → List (List ℕ) → ModelTable → (ModelId → IdealState → A) → Members → Found A
placement_in instances models whole members = do
  model ← required (codes "model") (model_id_in models.names) members
  ideal ← ideal_in instances models.states (model_at models.models model) members
  Ok (whole model ideal)

-- what stands over the instances and the models
abbrev pub over_in : {A : Type 0} → List (List ℕ) → ModelTable → (List Rule → ResourceTable → List Failure → A) → Members → Found A
over_in instances models whole members = do
  rules ← optional (codes "throttles") [] (rules_in models.states) members
  table ← optional (codes "resources") (record { names = []; resources = [] }) (resources_in instances models) members
  failures ← optional (codes "failures") [] (failures_in instances table) members
  Ok (whole rules table failures)
