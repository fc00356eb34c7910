-- How a resource is described.
use Rattle.std.specs.Prelude.{ℕ, Bool, true, false, not, ◌==◌, List, [], ◌∷◌, ◌++◌, length, Option, Ok, codes}
use Rattle.std.specs.List.{list_any, find}
use Rattle.serde_json.specs.Data.{Data, Members}
use Rattle.hx_ids.specs.declared.InstanceId.{InstanceId}
use Rattle.hx_ids.specs.declared.StateId.{StateId}
use Rattle.hx_ids.specs.declared.ModelId.{ModelId}
use Rattle.hx_model.specs.declared.ModelParts.{ModelParts}
use Rattle.hx_model.specs.Model.{states_of}
use Rattle.hx_model.specs.Builtin.{state_named}
use Rattle.hx_ideal.specs.declared.Mode.{Mode}
use Rattle.hx_ideal.specs.declared.Mode.TheVariants as modes
use Rattle.hx_ideal.specs.declared.kinds.ModeKind.{ModeKind}
use Rattle.hx_ideal.specs.declared.kinds.ModeKind.TheVariants.{FullAuto, SemiAuto, Customized}
use Rattle.hx_ideal.specs.IdealState.{IdealState}
use Rattle.hx_ideal.specs.ModeKinds.{kind_named}
use Rattle.hx_cluster.specs.Ends.{model_at}
use Rattle.hx_forms.specs.declared.faults.DescKind.TheVariants as kinds
use Rattle.hx_forms.specs.declared.tables.ModelTable.{ModelTable}
use Rattle.hx_desc.specs.declared.tables.ResourceTable.{ResourceTable}
use Rattle.hx_forms.specs.Found.{Found, fault, ◌>>=◌, tested, there_or, text_in, number_in, new_name_in, place_in, array_in, array_up_to, read_all, object_in, required, optional}

-- an instance by its name
abbrev pub instance_in : List (List ℕ) → Data → Found InstanceId
instance_in instances d = do
  place ← place_in kinds.UnknownInstance instances d
  Ok (record { 0 = place })

-- an instance that stands once in a list or a map
abbrev pub next_instance_in : List (List ℕ) → (InstanceId → Bool) → Data → Found InstanceId
next_instance_in instances is_taken d = do
  instance ← instance_in instances d
  tested ((is_taken instance, kinds.TwiceInList) ∷ []) instance

-- a preference list
abbrev pub is_listed : List InstanceId → InstanceId → Bool
is_listed list i = list_any (λ j. j.0 == i.0) list

abbrev pub preference_in : List (List ℕ) → List InstanceId → Data → Found (List InstanceId)
preference_in instances before d = do
  instance ← next_instance_in instances (is_listed before) d
  Ok (before ++ instance ∷ [])

abbrev pub list_in : List (List ℕ) → List (List InstanceId) → Data → Found (List (List InstanceId))
list_in instances before d = do
  ds ← array_in d
  list ← read_all (preference_in instances) [] ds
  Ok (before ++ list ∷ [])

-- a map: a state of the model on each instance that is named
abbrev pub is_placed : List (InstanceId × StateId) → InstanceId → Bool
is_placed entries i = list_any (λ e. e.0.0 == i.0) entries

abbrev pub state_of : List (List ℕ) → ModelParts → List ℕ → Option StateId
state_of names model name = find (λ s. s.0 == (state_named names name).0) (states_of model)

abbrev pub state_in : List (List ℕ) → ModelParts → Data → Found StateId
state_in names model d = do
  name ← text_in d
  there_or kinds.UnknownState (state_of names model name)

abbrev pub entry_in : List (List ℕ) → List (List ℕ) → ModelParts → List (InstanceId × StateId) → Data → Found (List (InstanceId × StateId))
entry_in instances names model before d = do
  members ← object_in (codes "instance" ∷ codes "state" ∷ []) d
  instance ← required (codes "instance") (next_instance_in instances (is_placed before)) members
  state ← required (codes "state") (state_in names model) members
  Ok (before ++ (instance, state) ∷ [])

abbrev pub map_in : List (List ℕ) → List (List ℕ) → ModelParts → List (List (InstanceId × StateId)) → Data → Found (List (List (InstanceId × StateId)))
map_in instances names model before d = do
  ds ← array_in d
  entries ← read_all (entry_in instances names model) [] ds
  Ok (before ++ entries ∷ [])

-- a list or a map for each partition, where the mode has them, and else no such member
abbrev pub each_part_in : {A : Type 0} → ℕ → (List A → Data → Found (List A)) → Data → Found (List A)
each_part_in parts read d = do
  ds ← array_in d
  counted ← tested ((not (length ds == parts), kinds.PartCount) ∷ []) ds
  read_all read [] counted

abbrev pub nowhere_in : {A : Type 0} → Data → Found (List A)
nowhere_in d = do
  _ ← array_in d
  fault kinds.WrongMode

abbrev pub parts_if : {A : Type 0} → Bool → List ℕ → ℕ → (List A → Data → Found (List A)) → Members → Found (List A)
parts_if true name parts read members = required name (each_part_in parts read) members
parts_if false name parts read members = optional name [] nowhere_in members

-- modes
abbrev pub kind_in : Data → Found ModeKind
kind_in d = do
  name ← text_in d
  there_or kinds.BadMode (kind_named name)

abbrev pub has_lists : ModeKind → Bool
has_lists FullAuto = false
has_lists SemiAuto = true
has_lists Customized = false

abbrev pub has_maps : ModeKind → Bool
has_maps FullAuto = false
has_maps SemiAuto = false
has_maps Customized = true

abbrev pub lists_in : List (List ℕ) → ModeKind → ℕ → Members → Found (List (List InstanceId))
lists_in instances kind parts members = parts_if (has_lists kind) (codes "lists") parts (list_in instances) members

abbrev pub maps_in : List (List ℕ) → List (List ℕ) → ModelParts → ModeKind → ℕ → Members → Found (List (List (InstanceId × StateId)))
maps_in instances states model kind parts members = parts_if (has_maps kind) (codes "maps") parts (map_in instances states model) members

abbrev pub mode_of : ModeKind → List (List InstanceId) → List (List (InstanceId × StateId)) → Mode
mode_of FullAuto lists maps = modes.Full
mode_of SemiAuto lists maps = modes.Semi lists
mode_of Customized lists maps = modes.Custom maps

-- how many replicas are wanted where
abbrev pub ideal_in : List (List ℕ) → List (List ℕ) → ModelParts → Members → Found IdealState
ideal_in instances states model members = do
  replicas ← required (codes "replicas") (number_in 1 64) members
  parts ← required (codes "partitions") (number_in 1 1024) members
  kind ← required (codes "mode") kind_in members
  lists ← lists_in instances kind parts members
  maps ← maps_in instances states model kind parts members
  Ok (record { replicas = replicas; parts = parts; mode = mode_of kind lists maps })

-- a resource, behind those before it
abbrev pub with_resource : ResourceTable → List ℕ → ModelId → IdealState → ResourceTable
with_resource table name model ideal = record {
  names = table.names ++ name ∷ [];
  resources = table.resources ++ (record { name = length table.names; model = model; ideal = ideal; dropped = false }) ∷ [];
}

abbrev pub model_id_in : List (List ℕ) → Data → Found ModelId
model_id_in names d = do
  place ← place_in kinds.UnknownModel names d
  Ok (record { 0 = place })

abbrev pub resource_keys : List (List ℕ)
resource_keys = codes "name" ∷ codes "model" ∷ codes "replicas" ∷ codes "partitions" ∷ codes "mode" ∷ codes "lists" ∷ codes "maps" ∷ []

abbrev pub resource_in : List (List ℕ) → ModelTable → ResourceTable → Data → Found ResourceTable
resource_in instances models table d = do
  members ← object_in resource_keys d
  name ← required (codes "name") (new_name_in table.names) members
  model ← required (codes "model") (model_id_in models.names) members
  ideal ← ideal_in instances models.states (model_at models.models model) members
  Ok (with_resource table name model ideal)

abbrev pub resources_in : List (List ℕ) → ModelTable → Data → Found ResourceTable
resources_in instances models d = do
  ds ← array_up_to 256 d
  read_all (resource_in instances models) (record { names = []; resources = [] }) ds
