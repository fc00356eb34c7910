-- What a description says: the cluster that it describes, or its first fault.
use Rattle.std.specs.Prelude.{ℕ, ◌-◌, ◌^◌, Bool, ◌==◌, ◌||◌, List, [], ◌∷◌, ◌++◌, length, Option, None, Some, Ok, if◌then◌else◌, codes}
use Rattle.std.specs.Ordering.{is_lt, nat_cmp}
use Rattle.std.specs.Cmp.Lexicographic.{slice_cmp}
use Rattle.std.specs.Str.{is_utf8, bytes_eq}
use Rattle.serde_json.specs.Data.{Data}
use Rattle.serde_json.specs.Read.{read}
use Rattle.hx_lists.specs.Lists.{sort_by}
use Rattle.hx_text.specs.Lines.{cut_of}
use Rattle.hx_cluster.specs.declared.description.Spec.{Spec}
use Rattle.hx_forms.specs.declared.faults.DescKind.TheVariants as kinds
use Rattle.hx_desc.specs.Demo.{demo}
use Rattle.hx_forms.specs.Found.{Found, fault, ◌>>=◌, within, tested, number_in, new_name_in, array_up_to, read_all, object_in, required, optional}
use Rattle.hx_forms.specs.ModelForm.{built_in, models_in}
use Rattle.hx_desc.specs.RuleForm.{rules_in}
use Rattle.hx_desc.specs.ResourceForm.{resources_in}
use Rattle.hx_desc.specs.FailureForm.{failures_in}

-- instances stand in byte order of their names
abbrev pub is_before : List ℕ → List ℕ → Bool
is_before a b = is_lt (slice_cmp nat_cmp a b)

abbrev pub instance_name_in : List (List ℕ) → Data → Found (List (List ℕ))
instance_name_in before d = do
  name ← new_name_in before d
  Ok (before ++ name ∷ [])

abbrev pub instances_in : Data → Found (List (List ℕ))
instances_in d = do
  ds ← array_up_to 64 d
  some ← tested ((length ds == 0, kinds.TooFew) ∷ []) ds
  names ← read_all instance_name_in [] some
  Ok (sort_by is_before names)

abbrev pub keys : List (List ℕ)
keys = codes "version" ∷ codes "controllers" ∷ codes "timeout" ∷ codes "instances" ∷ codes "models" ∷ codes "throttles" ∷ codes "resources" ∷ codes "failures" ∷ []

-- the whole description, as a JSON value
abbrev pub described : Data → Found Spec
described d = do
  members ← object_in keys d
  version ← required (codes "version") (number_in 1 1) members
  controllers ← optional (codes "controllers") 1 (number_in 1 16) members
  timeout ← optional (codes "timeout") 30 (number_in 1 (2 ^ 64 - 1)) members
  instances ← required (codes "instances") instances_in members
  models ← optional (codes "models") built_in models_in members
  rules ← optional (codes "throttles") [] (rules_in models.states) members
  table ← optional (codes "resources") (record { names = []; resources = [] }) (resources_in instances models) members
  failures ← optional (codes "failures") [] (failures_in instances table) members
  Ok (record {
    instances = instances;
    states = models.states;
    resource_names = table.names;
    model_names = models.names;
    models = models.models;
    controllers = controllers;
    timeout = timeout;
    rules = rules;
    resources = table.resources;
    failures = failures;
  })

-- the JSON value of some bytes
abbrev pub json_of : List ℕ → Option Data
json_of bytes = if is_utf8 bytes then read bytes else None

abbrev pub described_if : Option Data → Found Spec
described_if None = fault kinds.BadJson
described_if (Some d) = described d

-- a description is the demo's one line, or JSON. Paths begin at `$`
abbrev pub is_demo : List ℕ → Bool
is_demo bytes = bytes_eq bytes (codes "builtin demo\n") || bytes_eq bytes (codes "builtin demo\r\n")

abbrev pub spec_of : List ℕ → Found Spec
spec_of bytes = if is_demo bytes then Ok demo else within (codes "$") (described_if (json_of bytes))

-- the description of an input, which stands before its first separator
abbrev pub spec_before : Option (List ℕ × List ℕ) → Found Spec
spec_before None = within (codes "$") (fault kinds.NoSeparator)
spec_before (Some halves) = spec_of halves.0

abbrev pub input_spec : List ℕ → Found Spec
input_spec bytes = spec_before (cut_of bytes)
