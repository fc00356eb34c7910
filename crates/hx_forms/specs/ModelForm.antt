-- How a state model is described.
use Rattle.std.specs.Prelude.{ℕ, ◌^◌, Bool, not, ◌==◌, ◌||◌, ◌&&◌, List, [], ◌∷◌, ◌++◌, Option, None, Some, is_some, option_map, Ok, nat_lt, if◌then◌else◌, codes}
use Rattle.std.specs.List.{list_any, find, before_first, after_first}
use Rattle.std.specs.Str.{bytes_eq}
use Rattle.serde_json.specs.Data.{Data, Members}
use Rattle.hx_ids.specs.declared.StateId.{StateId}
use Rattle.hx_ids.specs.Names.{interned}
use Rattle.hx_text.specs.Spellings.{is_name, number_of}
use Rattle.hx_model.specs.declared.Bound.{Bound}
use Rattle.hx_model.specs.declared.Bound.TheVariants.{Count, Replicas, Live, Free}
use Rattle.hx_model.specs.declared.ModelParts.{ModelParts}
use Rattle.hx_model.specs.declared.ModelFault.{ModelFault}
use Rattle.hx_model.specs.declared.ModelFault.TheVariants as faults
use Rattle.hx_model.specs.Model.{dropped, is_between}
use Rattle.hx_model.specs.Faults.{fault_of, is_free}
use Rattle.hx_model.specs.Builtin.{state_named, builtin_states, builtin_names, builtin_models}
use Rattle.hx_forms.specs.declared.faults.DescKind.{DescKind}
use Rattle.hx_forms.specs.declared.faults.DescKind.TheVariants as kinds
use Rattle.hx_forms.specs.declared.tables.StateTable.{StateTable}
use Rattle.hx_forms.specs.declared.tables.ModelTable.{ModelTable}
use Rattle.hx_forms.specs.Found.{Found, fault, ◌>>=◌, tested, there_or, text_in, new_name_in, array_in, array_up_to, read_all, object_in, required}

-- the models that every description has
abbrev pub built_in : ModelTable
built_in = record { states = builtin_states; names = builtin_names; models = builtin_models }

-- bounds
abbrev pub counted : Option ℕ → Found Bound
counted None = fault kinds.BadBound
counted (Some n) = if nat_lt n (2 ^ 32) then Ok (Count n) else fault kinds.BadBound

abbrev pub bound_of : List ℕ → Found Bound
bound_of text =
    if bytes_eq text (codes "R") then Ok Replicas
    else if bytes_eq text (codes "N") then Ok Live
    else if bytes_eq text (codes "-1") then Ok Free
    else if bytes_eq text (codes "0") then fault kinds.ZeroBound
    else counted (number_of text)

abbrev pub bound_in : Data → Found Bound
bound_in d = do
  text ← text_in d
  bound_of text

-- names that every model has, though none lists them
abbrev pub is_error : List ℕ → Bool
is_error name = bytes_eq name (codes "ERROR")

abbrev pub is_dropped : List ℕ → Bool
is_dropped name = bytes_eq name (codes "DROPPED")

-- a state of the model, with its bound, by its name
abbrev pub state_of : StateTable → List ℕ → Option (StateId × Bound)
state_of table name = find (λ p. p.0.0 == (state_named table.names name).0) table.states

-- a state: its name is new in the model, and its number is that of the name
abbrev pub state_name_in : StateTable → Data → Found (List ℕ)
state_name_in table d = do
  name ← text_in d
  tested ((not (is_name name), kinds.BadName) ∷ (is_some (state_of table name), kinds.Twice) ∷ (is_error name || is_dropped name, kinds.ReservedState) ∷ []) name

abbrev pub with_state : StateTable → List ℕ → Bound → StateTable
with_state table name bound = record {
  names = interned table.names name;
  states = table.states ++ (state_named table.names name, bound) ∷ [];
}

abbrev pub state_in : StateTable → Data → Found StateTable
state_in table d = do
  members ← object_in (codes "name" ∷ codes "bound" ∷ []) d
  name ← required (codes "name") (state_name_in table) members
  bound ← required (codes "bound") bound_in members
  Ok (with_state table name bound)

abbrev pub states_in : List (List ℕ) → Data → Found StateTable
states_in names d = do
  ds ← array_up_to 16 d
  read_all state_in (record { names = names; states = [] }) ds

-- the initial state, in which any number of replicas may be
abbrev pub initial_in : StateTable → Data → Found StateId
initial_in table d = do
  name ← text_in d
  state ← there_or kinds.UnknownState (state_of table name)
  tested ((not (is_free state.1), kinds.InitialBounded) ∷ []) state.0

-- transitions: the names of two states with an arrow between
abbrev pub is_arrow : ℕ → Bool
is_arrow b = b == 62

abbrev pub ends_of : List ℕ → Option (List ℕ × List ℕ)
ends_of text =
    let from = before_first is_arrow text in
    let to = after_first is_arrow text in
    if is_name from && is_name to then Some (from, to) else None

abbrev pub source_of : StateTable → List ℕ → Option StateId
source_of table name = option_map (λ p. p.0) (state_of table name)

abbrev pub target_of : StateTable → List ℕ → Option StateId
target_of table name = if is_dropped name then Some dropped else source_of table name

abbrev pub transition_in : StateTable → List (StateId × StateId) → Data → Found (List (StateId × StateId))
transition_in table before d = do
  text ← text_in d
  named ← there_or kinds.BadTransition (ends_of text)
  ends ← tested ((is_error named.0 || is_error named.1 || is_dropped named.0, kinds.ReservedState) ∷ []) named
  from ← there_or kinds.UnknownState (source_of table ends.0)
  to ← there_or kinds.UnknownState (target_of table ends.1)
  tested ((from.0 == to.0, kinds.SelfLoop) ∷ (list_any (is_between from to) before, kinds.TwiceTransition) ∷ []) (before ++ (from, to) ∷ [])

abbrev pub transitions_in : StateTable → Data → Found (List (StateId × StateId))
transitions_in table d = do
  ds ← array_in d
  read_all (transition_in table) [] ds

-- what is wrong with a model as a whole
abbrev pub kind_of : ModelFault → DescKind
kind_of faults.TooManyStates = kinds.TooMany
kind_of (faults.Reserved place) = kinds.ReservedState
kind_of (faults.TwiceState place) = kinds.Twice
kind_of (faults.ZeroBound place) = kinds.ZeroBound
kind_of faults.NoInitial = kinds.UnknownState
kind_of faults.InitialBounded = kinds.InitialBounded
kind_of (faults.UnknownState place) = kinds.UnknownState
kind_of (faults.SelfLoop place) = kinds.SelfLoop
kind_of (faults.TwiceTransition place) = kinds.TwiceTransition
kind_of faults.NoDrop = kinds.NoDrop
kind_of (faults.CantReach state) = kinds.CantReach
kind_of (faults.CantLeave state) = kinds.CantLeave

abbrev pub unless : {A : Type 0} → Option ModelFault → A → Found A
unless None x = Ok x
unless (Some f) x = fault (kind_of f)

abbrev pub checked : ModelParts → Found ModelParts
checked model = unless (fault_of model) model

-- where a replica begins, and how it goes on
abbrev pub steps_in : StateTable → Members → Found (StateId × List (StateId × StateId))
steps_in listed members = do
  initial ← required (codes "initial") (initial_in listed) members
  transitions ← required (codes "transitions") (transitions_in listed) members
  Ok (initial, transitions)

-- a model, behind those before it
abbrev pub with_model : ModelTable → List ℕ → List (List ℕ) → ModelParts → ModelTable
with_model table name states model = record {
  states = states;
  names = table.names ++ name ∷ [];
  models = table.models ++ model ∷ [];
}

abbrev pub model_in : ModelTable → Data → Found ModelTable
model_in table d = do
  members ← object_in (codes "name" ∷ codes "states" ∷ codes "initial" ∷ codes "transitions" ∷ []) d
  name ← required (codes "name") (new_name_in table.names) members
  listed ← required (codes "states") (states_in table.states) members
  steps ← steps_in listed members
  model ← checked (record { states = listed.states; initial = steps.0; transitions = steps.1 })
  Ok (with_model table name listed.names model)

abbrev pub models_in : Data → Found ModelTable
models_in d = do
  ds ← array_up_to 5 d
  read_all model_in built_in ds
