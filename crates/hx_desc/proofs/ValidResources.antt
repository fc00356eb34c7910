-- The resources that are read are valid.
use Rattle.std.proofs.Common.{◌≡◌, ℕ, ◌+◌, ◌<◌, ◌≤◌, true, false, not, List, [], ◌∷◌, ◌++◌, length, length-append, None, Ok, inl, inr, refl, ap, subst, arith}
use Rattle.std.specs.Prelude.{◌==◌, ◌&&◌, nat_lt, codes}
use Rattle.std.specs.List.{list_any, IsDistinct, AllByRecursion}
use Rattle.std.specs.Str.{bytes_eq}
use Rattle.std.proofs.lemmas.Bool.Decides.{nat_tests}
use Rattle.serde_json.specs.Data.{Data, Members}
use Rattle.hx_ids.specs.declared.ModelId.{ModelId}
use Rattle.hx_model.specs.declared.ModelParts.{ModelParts}
use Rattle.hx_model.specs.Model.{states_of}
use Rattle.hx_ideal.specs.IdealState.{IdealState}
use Rattle.hx_ideal.specs.Faults.{fault_of}
use Rattle.hx_cluster.specs.declared.description.Resource.{Resource}
use Rattle.hx_cluster.specs.Ends.{model_at}
use Rattle.hx_forms.specs.declared.faults.DescKind.TheVariants as kinds
use Rattle.hx_forms.specs.Found.{place_in, number_in, new_name_in, array_up_to, object_in, required, optional}
use Rattle.hx_forms.proofs.Chains.{then_ok, ok_same, required_ok, optional_ok, number_range, place_range, array_few, keeps, counts}
use Rattle.hx_forms.specs.declared.tables.ModelTable.{ModelTable}
use Rattle.hx_desc.specs.declared.tables.ResourceTable.{ResourceTable}
use Rattle.hx_desc.specs.ResourceForm.{kind_in, lists_in, maps_in, mode_of, ideal_in, with_resource, model_id_in, resource_keys, resource_in, resources_in}
use Rattle.hx_cluster.specs.Valid.{has_good_ideal, same_name}
use Rattle.hx_desc.proofs.Each.{each-append, each_so, distinct_passes, distinct-append}
use Rattle.hx_desc.proofs.Names.{AreNames, new_name, names-append}
use Rattle.hx_desc.proofs.ValidIdeals.{no_fault}

-- an ideal state that is read has no fault
ideal_read : (instances states : List (List ℕ)) (model : ModelParts) (members : Members) (ideal : IdealState) → ideal_in instances states model members ≡ Ok ideal
    → fault_of ideal.replicas ideal.parts ideal.mode (length instances) (states_of model) ≡ None
ideal_read instances states model members ideal is =
    let replicas = then_ok (required (codes "replicas") (number_in 1 64) members) _ ideal is in
    let parts = then_ok (required (codes "partitions") (number_in 1 1024) members) _ ideal replicas.2 in
    let kind = then_ok (required (codes "mode") kind_in members) _ ideal parts.2 in
    let lists = then_ok (lists_in instances kind.0 parts.0 members) _ ideal kind.2 in
    let maps = then_ok (maps_in instances states model kind.0 parts.0 members) _ ideal lists.2 in
    let read_replicas = required_ok (codes "replicas") (number_in 1 64) members replicas.0 replicas.1 in
    let read_parts = required_ok (codes "partitions") (number_in 1 1024) members parts.0 parts.1 in
    let some = number_range 1 64 read_replicas.0 replicas.0 read_replicas.1 in
    let few = number_range 1 1024 read_parts.0 parts.0 read_parts.1 in
    subst (λ (i : IdealState). fault_of i.replicas i.parts i.mode (length instances) (states_of model) ≡ None)
    (ok_same (record { replicas = replicas.0; parts = parts.0; mode = mode_of kind.0 lists.0 maps.0 }) ideal maps.2)
    (no_fault instances states model members replicas.0 parts.0 kind.0 lists.0 maps.0 some few lists.1 maps.1)

-- a resource among so many names
pub record IsResource (instances : ℕ) (models : List ModelParts) (names : ℕ) (r : Resource) : Type 0 where
  pub name : r.name < names
  pub model : r.model.0 < length models
  pub kept : r.dropped ≡ false
  pub good : has_good_ideal instances models r ≡ true

pub record AreResources (instances : ℕ) (models : List ModelParts) (table : ResourceTable) : Type 0 where
  pub names : AreNames table.names
  pub named : length table.names ≡ length table.resources
  pub each : AllByRecursion (λ r. IsResource instances models (length table.names) r) table.resources
  pub apart : IsDistinct same_name table.resources

pub resource_test : (instances : ℕ) (models : List ModelParts) (names : ℕ) (r : Resource) → IsResource instances models names r
    → (nat_lt r.name names && nat_lt r.model.0 (length models) && not r.dropped && has_good_ideal instances models r) ≡ true
resource_test instances models names r good = rw (below r.name names good.name, below r.model.0 (length models) good.model, good.kept, good.good) refl
  where
    below : (a b : ℕ) → a < b → nat_lt a b ≡ true
    below a b lt = grind (arith, nat_tests)

other_name : (n m : ℕ) → m < n → (n == m) ≡ false
other_name n m lt = grind (arith, nat_tests)

-- no resource so far has the next name
new_number : (instances : ℕ) (models : List ModelParts) (n : ℕ) (rs : List Resource) → AllByRecursion (λ r. IsResource instances models n r) rs → list_any (λ b. n == b.name) rs ≡ false
new_number instances models n [] each = refl
new_number instances models n (r ∷ rs) each = rw (other_name n r.name each.0.name) (new_number instances models n rs each.1)

pub names_flip : (a b : Resource) → same_name a b ≡ false → same_name b a ≡ false
names_flip a b other = flip a.name b.name other
  where
    flip : (n m : ℕ) → (n == m) ≡ false → (m == n) ≡ false
    flip n m other = grind (arith, nat_tests)

pub name_self : (r : Resource) → same_name r r ≡ true
name_self r = self r.name
  where
    self : (n : ℕ) → (n == n) ≡ true
    self n = grind (arith, nat_tests)

with_resource_kept : (instances : ℕ) (models : List ModelParts) (table : ResourceTable) (name : List ℕ) (model : ModelId) (ideal : IdealState) → AreNames (table.names ++ name ∷ []) → model.0 < length models
    → fault_of ideal.replicas ideal.parts ideal.mode instances (states_of (model_at models model)) ≡ None → AreResources instances models table → AreResources instances models (with_resource table name model ideal)
with_resource_kept instances models table name model ideal names range faultless good =
    let longer = length-append table.names (name ∷ []) in
    let new : Resource = record { name = length table.names; model = model; ideal = ideal; dropped = false } in
    record {
      names = names;
      named = omega (arith, good.named, longer, length-append table.resources (new ∷ []));
      each = each-append (λ (r : Resource). IsResource instances models (length (table.names ++ name ∷ [])) r) table.resources new
          (each_so (λ (r : Resource). IsResource instances models (length table.names) r) (λ (r : Resource). IsResource instances models (length (table.names ++ name ∷ [])) r)
          (λ r is. record { name = omega (arith, is.name, longer); model = is.model; kept = is.kept; good = is.good }) table.resources good.each)
          (record { name = omega (arith, longer); model = range; kept = refl; good = rw faultless refl });
      apart = distinct-append same_name names_flip table.resources new good.apart (new_number instances models (length table.names) table.resources good.each);
    }

resource_kept : (instances : List (List ℕ)) (models : ModelTable) → length models.names ≡ length models.models → (before after : ResourceTable) (d : Data) → AreResources (length instances) models.models before
    → resource_in instances models before d ≡ Ok after → AreResources (length instances) models.models after
resource_kept instances models named before after d good is =
    let members = then_ok (object_in resource_keys d) _ after is in
    let name = then_ok (required (codes "name") (new_name_in before.names) members.0) _ after members.2 in
    let model = then_ok (required (codes "model") (model_id_in models.names) members.0) _ after name.2 in
    let ideal = then_ok (ideal_in instances models.states (model_at models.models model.0) members.0) _ after model.2 in
    let read_name = required_ok (codes "name") (new_name_in before.names) members.0 name.0 name.1 in
    let new = new_name before.names read_name.0 name.0 read_name.1 in
    let read_model = required_ok (codes "model") (model_id_in models.names) members.0 model.0 model.1 in
    let place = then_ok (place_in kinds.UnknownModel models.names read_model.0) _ model.0 read_model.1 in
    let range = place_range kinds.UnknownModel models.names read_model.0 place.0 place.1 in
    let same = ap (λ (m : ModelId). m.0) (ok_same (record { 0 = place.0 }) model.0 place.2) in
    let in_range : model.0.0 < length models.models = omega (arith, range, same, named) in
    subst (λ (t : ResourceTable). AreResources (length instances) models.models t) (ok_same (with_resource before name.0 model.0 ideal.0) after ideal.2)
    (with_resource_kept (length instances) models.models before name.0 model.0 ideal.0 (names-append before.names name.0 good.names new.is new.new) in_range (ideal_read instances models.states (model_at models.models model.0) members.0 ideal.0 ideal.1) good)

resource_longer : (instances : List (List ℕ)) (models : ModelTable) (before after : ResourceTable) (d : Data) → resource_in instances models before d ≡ Ok after → length after.resources ≡ length before.resources + 1
resource_longer instances models before after d is =
    let members = then_ok (object_in resource_keys d) _ after is in
    let name = then_ok (required (codes "name") (new_name_in before.names) members.0) _ after members.2 in
    let model = then_ok (required (codes "model") (model_id_in models.names) members.0) _ after name.2 in
    let ideal = then_ok (ideal_in instances models.states (model_at models.models model.0) members.0) _ after model.2 in
    let new : Resource = record { name = length before.names; model = model.0; ideal = ideal.0; dropped = false } in
    omega (arith, ap (λ (t : ResourceTable). length t.resources) (ok_same (with_resource before name.0 model.0 ideal.0) after ideal.2), length-append before.resources (new ∷ []))

pub record AreFewResources (instances : ℕ) (models : List ModelParts) (table : ResourceTable) : Type 0 where
  pub good : AreResources instances models table
  pub few : length table.resources ≤ 256

abbrev pub no_resources : ResourceTable
no_resources = record { names = []; resources = [] }

none_good : (instances : ℕ) (models : List ModelParts) → AreResources instances models no_resources
none_good instances models = record { names = record { each = tt; distinct = distinct_passes bytes_eq [] refl }; named = refl; each = tt; apart = distinct_passes same_name [] refl }

pub resources_read : (instances : List (List ℕ)) (models : ModelTable) → length models.names ≡ length models.models → (members : Members) (table : ResourceTable)
    → optional (codes "resources") no_resources (resources_in instances models) members ≡ Ok table → AreFewResources (length instances) models.models table
resources_read instances models named members table is = elim (optional_ok (codes "resources") no_resources (resources_in instances models) members table is) [
  | inl same ↦ subst (λ (t : ResourceTable). AreFewResources (length instances) models.models t) same (record { good = none_good (length instances) models.models; few = omega arith })
  | inr read ↦
      let ds = then_ok (array_up_to 256 read.0) _ table read.1 in
      let few = array_few 256 read.0 ds.0 ds.1 in
      let many = counts (λ (t : ResourceTable). length t.resources) (resource_in instances models) (resource_longer instances models) ds.0 0 no_resources table ds.2 in
      let good = keeps (λ (t : ResourceTable). AreResources (length instances) models.models t) (resource_in instances models) (resource_kept instances models named) ds.0 0 no_resources table (none_good (length instances) models.models) ds.2 in
      record { good = good; few = up_to_256 (length table.resources) (length ds.0) few many }
]
  where
    up_to_256 : (n k : ℕ) → k ≤ 256 → n ≡ 0 + k → n ≤ 256
    up_to_256 n k few many = omega (arith, few, many)
