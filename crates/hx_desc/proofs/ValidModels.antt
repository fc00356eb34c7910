-- The models that are read are valid.
use Rattle.std.proofs.Common.{◌≡◌, ℕ, ◌+◌, ◌*◌, ◌<◌, ◌≤◌, Bool, true, false, List, [], ◌∷◌, ◌++◌, length, map, take, length-append, append_assoc, append-nil, Option, None, Some, Ok, inl, inr, refl, sym, ap, ◌∙◌, subst, arith}
use Rattle.std.specs.Prelude.{if◌then◌else◌, ◌||◌, not, is_some, nat_lt, codes}
use Rattle.std.specs.List.{list_any, AllByRecursion}
use Rattle.std.specs.Str.{bytes_eq}
use Rattle.std.proofs.lemmas.Bool.Decides.{nat_tests}
use Rattle.serde_json.specs.Data.{Data, Members}
use Rattle.hx_ids.specs.declared.StateId.{StateId}
use Rattle.hx_ids.specs.Names.{interned}
use Rattle.hx_text.specs.Spellings.{is_name}
use Rattle.hx_model.specs.declared.Bound.{Bound}
use Rattle.hx_model.specs.declared.ModelParts.{ModelParts}
use Rattle.hx_model.specs.declared.ModelFault.{ModelFault}
use Rattle.hx_model.specs.Model.{states_of}
use Rattle.hx_model.specs.Builtin.{state_named, builtin_states, builtin_names, builtin_models}
use Rattle.hx_model.specs.Faults.{fault_of}
use Rattle.hx_model.proofs.Named.{bytes_same, place_after-interned, interned-has}
use Rattle.hx_forms.specs.declared.faults.DescKind.TheVariants as kinds
use Rattle.hx_forms.specs.Found.{Found, fault, text_in, new_name_in, array_up_to, object_in, required, optional}
use Rattle.hx_forms.proofs.Chains.{then_ok, ok_same, passed, required_ok, optional_ok, array_few, keeps, grows, counts}
use Rattle.hx_forms.specs.declared.tables.StateTable.{StateTable}
use Rattle.hx_forms.specs.declared.tables.ModelTable.{ModelTable}
use Rattle.hx_forms.specs.ModelForm.{built_in, unless, is_error, is_dropped, state_of, state_name_in, bound_in, with_state, state_in, states_in, steps_in, checked, with_model, model_in, models_in}
use Rattle.hx_forms.proofs.Sizes.{few_states}
use Rattle.hx_cluster.specs.Valid.{is_valid_model, is_named_state}
use Rattle.hx_desc.proofs.Each.{each-append, each_so, each_test, each_passes, distinct_passes, both_true}
use Rattle.hx_desc.proofs.Names.{AreNames, IsNew, yes, new_name, names-append, names-interned}

-- a list that begins with some items
abbrev pub Begins : {X : Type 0} → List X → List X → Type 0
Begins {X} first all = (rest : List X) × (all ≡ first ++ rest)

begins-append : {X : Type 0} (first all : List X) (x : X) → Begins first all → Begins first (all ++ x ∷ [])
begins-append first all x begins = (begins.0 ++ x ∷ [], rw begins.1 (append_assoc first begins.0 (x ∷ [])))

begins-interned : (first names : List (List ℕ)) (name : List ℕ) → Begins first names → Begins first (interned names name)
begins-interned first names name begins = one (list_any (bytes_eq name) names)
  where
    one : (b : Bool) → Begins first (if b then names else names ++ name ∷ [])
    one true = begins
    one false = begins-append first names name begins

longer-interned : (names : List (List ℕ)) (name : List ℕ) → length names ≤ length (interned names name)
longer-interned names name =
    let begins = begins-interned names names name ([], sym (append-nil names)) in
    omega (arith, ap length begins.1, length-append names begins.0)

-- the states of a model: they have names, of which there may be more before
record AreStates (before : List (List ℕ)) (table : StateTable) : Type 0 where
  names : AreNames table.names
  first : Begins builtin_states table.names
  more : length before ≤ length table.names
  each : AllByRecursion (λ p. p.0.0 < length table.names) table.states

state_named_in : (names : List (List ℕ)) (name : List ℕ) → (state_named names name).0 < length (interned names name)
state_named_in names name = omega (arith, place_after-interned names name (bytes_same name), interned-has names name (bytes_same name))

with_state_kept : (before : List (List ℕ)) (table : StateTable) (name : List ℕ) (bound : Bound) → is_name name ≡ true → AreStates before table → AreStates before (with_state table name bound)
with_state_kept before table name bound is good =
    let longer = longer-interned table.names name in
    record {
      names = names-interned table.names name good.names is;
      first = begins-interned builtin_states table.names name good.first;
      more = omega (arith, good.more, longer);
      each = each-append (λ (p : StateId × Bound). p.0.0 < length (interned table.names name)) table.states (state_named table.names name, bound)
          (each_so (λ (p : StateId × Bound). p.0.0 < length table.names) (λ (p : StateId × Bound). p.0.0 < length (interned table.names name)) (λ p lt. omega (arith, lt, longer)) table.states good.each)
          (state_named_in table.names name);
    }

state_name : (table : StateTable) (d : Data) (name : List ℕ) → state_name_in table d ≡ Ok name → is_name name ≡ true
state_name table d name is =
    let text = then_ok (text_in d) _ name is in
    let reserved : Found (List ℕ) = if is_error text.0 || is_dropped text.0 then fault kinds.ReservedState else Ok text.0 in
    let spelt = passed kinds.BadName (not (is_name text.0)) (if is_some_state text.0 then fault kinds.Twice else reserved) name text.2 in
    let once = passed kinds.Twice (is_some_state text.0) reserved name spelt.1 in
    let free = passed kinds.ReservedState (is_error text.0 || is_dropped text.0) (Ok text.0) name once.1 in
    subst (λ (n : List ℕ). is_name n ≡ true) (ok_same text.0 name free.1) (yes (is_name text.0) spelt.0)
  where
    is_some_state : List ℕ → Bool
    is_some_state n = is_some (state_of table n)

state_kept : (before : List (List ℕ)) (table after : StateTable) (d : Data) → AreStates before table → state_in table d ≡ Ok after → AreStates before after
state_kept before table after d good is =
    let members = then_ok (object_in (codes "name" ∷ codes "bound" ∷ []) d) _ after is in
    let name = then_ok (required (codes "name") (state_name_in table) members.0) _ after members.2 in
    let bound = then_ok (required (codes "bound") bound_in members.0) _ after name.2 in
    let read = required_ok (codes "name") (state_name_in table) members.0 name.0 name.1 in
    subst (λ (t : StateTable). AreStates before t) (ok_same (with_state table name.0 bound.0) after bound.2) (with_state_kept before table name.0 bound.0 (state_name table read.0 name.0 read.1) good)

states_read : (names : List (List ℕ)) (members : Members) (table : StateTable) → AreNames names → Begins builtin_states names → required (codes "states") (states_in names) members ≡ Ok table → AreStates names table
states_read names members table good first is =
    let read = required_ok (codes "states") (states_in names) members table is in
    let ds = then_ok (array_up_to 16 read.0) _ table read.1 in
    let none : AreStates names (record { names = names; states = [] }) = record { names = good; first = first; more = omega arith; each = tt } in
    keeps (λ (t : StateTable). AreStates names t) state_in (λ before after d. state_kept names before after d) ds.0 0 (record { names = names; states = [] }) table none ds.2

-- a model without fault, whose states have names
pub record IsModel (states : ℕ) (m : ModelParts) : Type 0 where
  pub no_fault : fault_of m ≡ None
  pub named : AllByRecursion (λ s. s.0 < states) (states_of m)

pub valid_model : (states : ℕ) (m : ModelParts) → IsModel states m → is_valid_model states m ≡ true
valid_model states m good =
    both_true _ _ (rw good.no_fault refl) (each_test (λ (s : StateId). s.0 < states) (is_named_state states) (λ s lt. below s.0 states lt) (states_of m) good.named)
  where
    below : (a b : ℕ) → a < b → nat_lt a b ≡ true
    below a b lt = grind (arith, nat_tests)

-- the models so far, with their names and those of their states
pub record AreModels (table : ModelTable) : Type 0 where
  pub states : AreNames table.states
  pub first_states : Begins builtin_states table.states
  pub names : AreNames table.names
  pub first_names : Begins builtin_names table.names
  pub first_models : Begins builtin_models table.models
  pub each : AllByRecursion (λ m. IsModel (length table.states) m) table.models
  pub named : length table.names ≡ length table.models

each_state : (n : ℕ) (states : List (StateId × Bound)) → AllByRecursion (λ p. p.0.0 < n) states → AllByRecursion (λ s. s.0 < n) (map (λ p. p.0) states)
each_state n [] each = tt
each_state n (p ∷ states) each = (each.0, each_state n states each.1)

unless_none : {A : Type 0} (o : Option ModelFault) (x y : A) → unless o x ≡ Ok y → (o ≡ None) × (x ≡ y)
unless_none None x y is = (refl, ok_same x y is)
unless_none (Some f) x y is = cc

with_model_kept : (table : ModelTable) (name : List ℕ) (listed : StateTable) (model : ModelParts) → IsNew table.names name → AreStates table.states listed → listed.states ≡ model.states → fault_of model ≡ None → AreModels table
    → AreModels (with_model table name listed.names model)
with_model_kept table name listed model new states same no_fault good = record {
  states = states.names;
  first_states = states.first;
  names = names-append table.names name good.names new.is new.new;
  first_names = begins-append builtin_names table.names name good.first_names;
  first_models = begins-append builtin_models table.models model good.first_models;
  each = each-append (λ (m : ModelParts). IsModel (length listed.names) m) table.models model
      (each_so (λ (m : ModelParts). IsModel (length table.states) m) (λ (m : ModelParts). IsModel (length listed.names) m) (λ m is. wider m is) table.models good.each)
      (record { no_fault = no_fault; named = each_state (length listed.names) model.states (subst (λ (ps : List (StateId × Bound)). AllByRecursion (λ p. p.0.0 < length listed.names) ps) same states.each) });
  named = omega (arith, good.named, length-append table.names (name ∷ []), length-append table.models (model ∷ []));
}
  where
    wider : (m : ModelParts) → IsModel (length table.states) m → IsModel (length listed.names) m
    wider m is = record {
      no_fault = is.no_fault;
      named = each_so (λ (s : StateId). s.0 < length table.states) (λ (s : StateId). s.0 < length listed.names) (λ s lt. omega (arith, lt, states.more)) (states_of m) is.named;
    }

-- a model that was read behind others, step by step
record IsModelRead (table after : ModelTable) (d : Data) : Type 0 where
  members : Members
  name : List ℕ
  listed : StateTable
  model : ModelParts
  named : required (codes "name") (new_name_in table.names) members ≡ Ok name
  states : required (codes "states") (states_in table.states) members ≡ Ok listed
  own : listed.states ≡ model.states
  no_fault : fault_of model ≡ None
  made : with_model table name listed.names model ≡ after

model_read : (table after : ModelTable) (d : Data) → model_in table d ≡ Ok after → IsModelRead table after d
model_read table after d is =
    let members = then_ok (object_in (codes "name" ∷ codes "states" ∷ codes "initial" ∷ codes "transitions" ∷ []) d) _ after is in
    let name = then_ok (required (codes "name") (new_name_in table.names) members.0) _ after members.2 in
    let listed = then_ok (required (codes "states") (states_in table.states) members.0) _ after name.2 in
    let steps = then_ok (steps_in listed.0 members.0) _ after listed.2 in
    let model : ModelParts = record { states = listed.0.states; initial = steps.0.0; transitions = steps.0.1 } in
    let found = then_ok (checked model) _ after steps.2 in
    let faultless = unless_none (fault_of model) model found.0 found.1 in
    record {
      members = members.0;
      name = name.0;
      listed = listed.0;
      model = model;
      named = name.1;
      states = listed.1;
      own = refl;
      no_fault = faultless.0;
      made = ap (λ (m : ModelParts). with_model table name.0 listed.0.names m) faultless.1 ∙ ok_same (with_model table name.0 listed.0.names found.0) after found.2;
    }

model_kept : (table after : ModelTable) (d : Data) → AreModels table → model_in table d ≡ Ok after → AreModels after
model_kept table after d good is =
    let m = model_read table after d is in
    let read = required_ok (codes "name") (new_name_in table.names) m.members m.name m.named in
    let new = new_name table.names read.0 m.name read.1 in
    let states = states_read table.states m.members m.listed good.states good.first_states m.states in
    subst AreModels m.made (with_model_kept table m.name m.listed m.model new states m.own m.no_fault good)

built_in_good : AreModels built_in
built_in_good = record {
  states = record { each = each_passes is_name builtin_states refl; distinct = distinct_passes bytes_eq builtin_states refl };
  first_states = ([], refl);
  names = record { each = each_passes is_name builtin_names refl; distinct = distinct_passes bytes_eq builtin_names refl };
  first_names = ([], refl);
  first_models = ([], refl);
  each = (
    record { no_fault = refl; named = (omega arith, (omega arith, (omega arith, tt))) },
    (
      record { no_fault = refl; named = (omega arith, (omega arith, tt)) },
      (record { no_fault = refl; named = (omega arith, (omega arith, (omega arith, tt))) }, tt),
    ),
  );
  named = refl;
}

-- how much a model adds
record Grows (t u : ModelTable) : Type 0 where
  states : length u.states ≤ length t.states + 16
  models : length u.models ≡ length t.models + 1

states_few : (names : List (List ℕ)) (members : Members) (t : StateTable) → required (codes "states") (states_in names) members ≡ Ok t → length t.names ≤ length names + 16
states_few names members t is =
    let read = required_ok (codes "states") (states_in names) members t is in
    let ds = then_ok (array_up_to 16 read.0) _ t read.1 in
    few_states names ds.0 (Ok t) (array_few 16 read.0 ds.0 ds.1) ds.2

model_grows : (t u : ModelTable) (d : Data) → model_in t d ≡ Ok u → Grows t u
model_grows t u d is =
    let m = model_read t u d is in
    subst (λ (v : ModelTable). Grows t v) m.made (record { states = states_few t.states m.members m.listed m.states; models = length-append t.models (m.model ∷ []) })

pub record AreFewModels (table : ModelTable) : Type 0 where
  pub good : AreModels table
  pub few_states : length table.states ≤ 256
  pub few_models : length table.models ≤ 8

pub models_read : (members : Members) (table : ModelTable) → optional (codes "models") built_in models_in members ≡ Ok table → AreFewModels table
models_read members table is = elim (optional_ok (codes "models") built_in models_in members table is) [
  | inl same ↦ subst AreFewModels same (record { good = built_in_good; few_states = omega arith; few_models = omega arith })
  | inr read ↦
      let ds = then_ok (array_up_to 5 read.0) _ table read.1 in
      let few = array_few 5 read.0 ds.0 ds.1 in
      record {
        good = keeps AreModels model_in model_kept ds.0 0 built_in table built_in_good ds.2;
        few_states = up_to_256 (length table.states) (length ds.0) few (grows (λ (m : ModelTable). length m.states) 16 model_in (λ a b d e. (model_grows a b d e).states) ds.0 0 built_in table ds.2);
        few_models = up_to_8 (length table.models) (length ds.0) few (counts (λ (m : ModelTable). length m.models) model_in (λ a b d e. (model_grows a b d e).models) ds.0 0 built_in table ds.2);
      }
]
  where
    up_to_256 : (n k : ℕ) → k ≤ 5 → n ≤ 8 + 16 * k → n ≤ 256
    up_to_256 n k few more = omega (arith, few, more)

    up_to_8 : (n k : ℕ) → k ≤ 5 → n ≡ 3 + k → n ≤ 8
    up_to_8 n k few more = omega (arith, few, more)

-- the first of them are the built-in ones
pub first_eight : (names : List (List ℕ)) → Begins builtin_states names → take 8 names ≡ builtin_states
first_eight names begins = rw begins.1 refl

pub first_three : (names : List (List ℕ)) → Begins builtin_names names → take 3 names ≡ builtin_names
first_three names begins = rw begins.1 refl

pub first_three_models : (models : List ModelParts) → Begins builtin_models models → take 3 models ≡ builtin_models
first_three_models models begins = rw begins.1 refl
