-- The JSON value of the description that is made describes its cluster.
use Rattle.std.proofs.Common.{◌≡◌, ℕ, zero, suc, ◌+◌, ◌/◌, ◌%◌, ◌^◌, ◌<◌, ◌≤◌, Bool, true, false, not, ◌||◌, ◌==◌, nat_lt, if◌then◌else◌, List, [], ◌∷◌, ◌++◌, map, length, None, Ok, codes, refl, sym, ap, ◌∙◌, append_assoc, append-nil, arith}
use Rattle.std.specs.Fmt.{digits}
use Rattle.std.specs.Str.{is_utf8}
use Rattle.std.proofs.lemmas.Bool.Decides.{nat_tests}
use Rattle.serde_json.specs.Data.{Data, Members}
use Rattle.serde_json.specs.View.{items_of}
use Rattle.serde_json.specs.Read.{read}
use Rattle.hx_ids.specs.declared.InstanceId.{InstanceId}
use Rattle.hx_ids.specs.Words.{instance, model}
use Rattle.hx_model.specs.declared.ModelParts.{ModelParts}
use Rattle.hx_ideal.specs.declared.Mode.TheVariants.{Semi}
use Rattle.hx_ideal.specs.declared.kinds.ModeKind.TheVariants.{SemiAuto}
use Rattle.hx_ideal.specs.IdealState.{IdealState}
use Rattle.hx_cluster.specs.declared.description.Spec.{Spec}
use Rattle.hx_cluster.specs.Ends.{model_at}
use Rattle.hx_forms.specs.declared.faults.DescKind.TheVariants as kinds
use Rattle.hx_forms.specs.Found.{Found, ◌>>=◌, within, in_member, in_item, tested, data_of, read_from, number_in, required, optional}
use Rattle.hx_forms.specs.ModelForm.{built_in}
use Rattle.hx_desc.specs.declared.tables.ResourceTable.{ResourceTable}
use Rattle.hx_desc.specs.ResourceForm.{list_in, each_part_in, lists_in, ideal_in, with_resource, resource_in, resources_in}
use Rattle.hx_desc.specs.Description.{instances_in, described, described_if, spec_of, spec_before, input_spec}
use Rattle.hx_genwork.specs.Made.{drawn, all_instances, lists_after, description, made}
use Rattle.hx_app.specs.Asked.{all_names}
use Rattle.hx_app.specs.Values.{names_value, lists_value, only, resource_members, resource_value, made_members, made_value}
use Rattle.hx_app.specs.Described.{preferences, four_each, made_ideal, made_spec}
use Rattle.hx_app.proofs.Cases.{below_12}
use Rattle.hx_app.proofs.Bytes.{utf8-line}
use Rattle.hx_app.proofs.Texts.{list_from, first_below, line, description-line, line-printed}
use Rattle.hx_app.proofs.Values.{read-description}
use Rattle.hx_app.proofs.Cuts.{cut_of-made}

-- ---- the lists

abbrev IsRead : ℕ → Type 0
IsRead y = (before : List (List InstanceId)) → list_in all_names before (names_value (list_from y)) ≡ Ok (before ++ map instance (list_from y) ∷ [])

list_read : (y : ℕ) → y < 12 → IsRead y
unfolding digits
list_read =
    below_12 IsRead (λ before. refl) (λ before. refl) (λ before. refl) (λ before. refl) (λ before. refl) (λ before. refl)
    (λ before. refl) (λ before. refl) (λ before. refl) (λ before. refl) (λ before. refl) (λ before. refl)

all_read : (place x n : ℕ) (before : List (List InstanceId)) → read_from place (list_in all_names) before (map names_value (lists_after x n)) ≡ Ok (before ++ preferences (lists_after x n))
all_read place x zero before = ap Ok (sym (append-nil before))
all_read place x (suc n) before =
    let y = drawn x / 2 ^ 33 % 12 in
    let list = map instance (list_from y) in
    let more = lists_after (drawn x) n in
    ap (λ f. in_item place f >>= (λ after. read_from (place + 1) (list_in all_names) after (map names_value more))) (list_read y (first_below (drawn x)) before)
    ∙ all_read (place + 1) (drawn x) n (before ++ list ∷ [])
    ∙ ap Ok (append_assoc before (list ∷ []) (preferences more))

data_of-items_of : (ds : List Data) → data_of (items_of ds) ≡ ds
data_of-items_of [] = refl
data_of-items_of (d ∷ ds) = ap (λ more. d ∷ more) (data_of-items_of ds)

length-lists : (x n : ℕ) → length (map names_value (lists_after x n)) ≡ n
length-lists x zero = refl
length-lists x (suc n) = ap suc (length-lists (drawn x) n)

same : (n : ℕ) → (n == n) ≡ true
same n = grind (arith, nat_tests)

abbrev counted : ℕ → Bool → List Data → Found (List (List InstanceId))
counted size same ds = tested ((not same, kinds.PartCount) ∷ []) ds >>= (λ found. read_from 0 (list_in all_names) [] found)

each_read : (seed size : ℕ) → each_part_in size (list_in all_names) (lists_value (lists_after seed size)) ≡ Ok (preferences (lists_after seed size))
each_read seed size =
    let ds = map names_value (lists_after seed size) in
    ap (λ found. counted size (length found == size) found) (data_of-items_of ds)
    ∙ ap (λ n. counted size (n == size) ds) (length-lists seed size)
    ∙ ap (λ b. counted size b ds) (same size)
    ∙ all_read 0 seed size []

-- ---- the resource

in_range : (size : ℕ) → 1 ≤ size → size ≤ 256 → (nat_lt size 1 || nat_lt 1024 size) ≡ false
in_range size some most = grind (arith, nat_tests)

parts_read : (seed size : ℕ) → 1 ≤ size → size ≤ 256 → required (codes "partitions") (number_in 1 1024) (resource_members seed size) ≡ Ok size
parts_read seed size some most = ap (λ b. in_member (codes "partitions") (tested ((b, kinds.OutOfRange) ∷ []) size)) (in_range size some most)

abbrev after_lists : ℕ → Found (List (List InstanceId)) → Found IdealState
after_lists size found = found >>= (λ lists. Ok (record { replicas = 3; parts = size; mode = Semi lists }))

abbrev after_parts : Members → Found ℕ → Found IdealState
after_parts members found = found >>= (λ size. after_lists size (lists_in all_names SemiAuto size members))

ideal_read : (states : List (List ℕ)) (parts : ModelParts) (seed size : ℕ) → 1 ≤ size → size ≤ 256 → ideal_in all_names states parts (resource_members seed size) ≡ Ok (made_ideal seed size)
ideal_read states parts seed size some most =
    ap (after_parts (resource_members seed size)) (parts_read seed size some most)
    ∙ ap (λ found. after_lists size (in_member (codes "lists") found)) (each_read seed size)

abbrev no_resources : ResourceTable
no_resources = record { names = []; resources = [] }

abbrev made_table : ℕ → ℕ → ResourceTable
made_table seed size = with_resource no_resources (codes "db") (model 0) (made_ideal seed size)

resource_read : (seed size : ℕ) → 1 ≤ size → size ≤ 256 → resource_in all_names built_in no_resources (resource_value seed size) ≡ Ok (made_table seed size)
resource_read seed size some most =
    ap (λ found. found >>= (λ ideal. Ok (with_resource no_resources (codes "db") (model 0) ideal))) (ideal_read built_in.states (model_at built_in.models (model 0)) seed size some most)

resources_read : (seed size : ℕ) → 1 ≤ size → size ≤ 256 → resources_in all_names built_in (only (resource_value seed size)) ≡ Ok (made_table seed size)
resources_read seed size some most = ap (λ found. in_item 0 found >>= (λ after. Ok after)) (resource_read seed size some most)

-- ---- the whole

instances_read : instances_in (names_value all_instances) ≡ Ok all_names
unfolding digits
instances_read = refl

abbrev after_table : List (List ℕ) → Found ResourceTable → Found Spec
after_table instances found = found >>= (λ table. Ok (record {
  instances = instances;
  states = built_in.states;
  resource_names = table.names;
  model_names = built_in.names;
  models = built_in.models;
  controllers = 2;
  timeout = 30;
  rules = four_each ∷ [];
  resources = table.resources;
  failures = [];
}))

abbrev after_instances : Members → Found (List (List ℕ)) → Found Spec
after_instances members found = found >>= (λ instances. after_table instances (optional (codes "resources") (record { names = []; resources = [] }) (resources_in instances built_in) members))

pub described-value : (seed size : ℕ) → 1 ≤ size → size ≤ 256 → described (made_value seed size) ≡ Ok (made_spec seed size)
described-value seed size some most =
    ap (λ found. after_instances (made_members seed size) (in_member (codes "instances") found)) instances_read
    ∙ ap (λ found. after_table all_names (in_member (codes "resources") found)) (resources_read seed size some most)

-- ---- from its bytes

utf8-description : (seed size : ℕ) → size < 2 ^ 64 → is_utf8 (description seed size) ≡ true
utf8-description seed size small = ap is_utf8 (description-line seed size) ∙ utf8-line (line seed size) (line-printed seed size small)

pub spec_of-description : (seed size : ℕ) → 1 ≤ size → size ≤ 256 → spec_of (description seed size) ≡ Ok (made_spec seed size)
spec_of-description seed size some most =
    let small : size < 2 ^ 64 = omega arith in
    ap (λ b. within (codes "$") (described_if (if b then read (description seed size) else None))) (utf8-description seed size small)
    ∙ ap (λ o. within (codes "$") (described_if o)) (read-description seed size small)
    ∙ ap (within (codes "$")) (described-value seed size some most)

pub input_spec-made : (seed size : ℕ) → 1 ≤ size → size ≤ 256 → input_spec (made seed size) ≡ Ok (made_spec seed size)
input_spec-made seed size some most = ap spec_before (cut_of-made seed size (omega arith)) ∙ spec_of-description seed size some most
