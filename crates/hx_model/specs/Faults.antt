-- What is wrong with a model: the first fault, in one order.
use Rattle.std.specs.Prelude.{ℕ, ◌-◌, ◌^◌, Bool, true, false, not, ◌==◌, ◌||◌, ◌&&◌, List, [], ◌∷◌, ◌++◌, length, position, min, nat_lt, Option, None, Some, option_map, if◌then◌else◌}
use Rattle.std.specs.List.{list_any, find}
use Rattle.std.specs.Option.{option_or}
use Rattle.hx_ids.specs.declared.StateId.{StateId}
use Rattle.hx_lists.specs.First.{first_answer}
use Rattle.hx_model.specs.declared.Bound.{Bound}
use Rattle.hx_model.specs.declared.Bound.TheVariants.{Count, Replicas, Live, Free}
use Rattle.hx_model.specs.declared.ModelFault.{ModelFault}
use Rattle.hx_model.specs.declared.ModelFault.TheVariants.{TooManyStates, Reserved, TwiceState, ZeroBound, NoInitial, InitialBounded, UnknownState, SelfLoop, TwiceTransition, NoDrop, CantReach, CantLeave}
use Rattle.hx_model.specs.declared.ModelParts.{ModelParts}
use Rattle.hx_model.specs.Model.{dropped, states_of, has_state, is_between, bound_of}
use Rattle.hx_model.specs.Walks.{reaches}

-- a fault at a place. A place past the end of its type counts as the last
abbrev pub fault_at : (ℕ → ModelFault) → Option ℕ → Option ModelFault
fault_at fault place = option_map (λ i. fault (min i (2 ^ 32 - 1))) place

-- the place of the first item that is the same as one before it
abbrev pub twice_at : {X : Type 0} → (X → X → Bool) → List X → X → Option ℕ
twice_at same before x = if list_any (same x) before then Some (length before) else None

abbrev pub twice_place : {X : Type 0} → (X → X → Bool) → List X → Option ℕ
twice_place same xs = first_answer (twice_at same) xs

-- no more than 16 states
abbrev pub too_many_states : ModelParts → Option ModelFault
too_many_states m = if nat_lt 16 (length m.states) then Some TooManyStates else None

-- ERROR and DROPPED are no states that a model lists
abbrev pub reserved_state : ModelParts → Option ModelFault
reserved_state m = fault_at Reserved (position (λ p. nat_lt p.0.0 2) m.states)

-- no transition starts at either, and none leads to ERROR
abbrev pub is_reserved : StateId × StateId → Bool
is_reserved t = nat_lt t.0.0 2 || (t.1.0 == 0)

abbrev pub reserved_transition : ModelParts → Option ModelFault
reserved_transition m = fault_at Reserved (position is_reserved m.transitions)

abbrev pub twice_state : ModelParts → Option ModelFault
twice_state m = fault_at TwiceState (twice_place (λ p b. b.0.0 == p.0.0) m.states)

abbrev pub is_zero : Bound → Bool
is_zero (Count n) = n == 0
is_zero Replicas = false
is_zero Live = false
is_zero Free = false

abbrev pub zero_bound : ModelParts → Option ModelFault
zero_bound m = fault_at ZeroBound (position (λ p. is_zero p.1) m.states)

-- the initial state is listed
abbrev pub no_initial : ModelParts → Option ModelFault
no_initial m = if has_state m m.initial then None else Some NoInitial

abbrev pub is_free : Bound → Bool
is_free (Count n) = false
is_free Replicas = false
is_free Live = false
is_free Free = true

-- and any number of replicas may be in it
abbrev pub initial_bounded : ModelParts → Option ModelFault
initial_bounded m = if is_free (bound_of m m.initial) then None else Some InitialBounded

-- whether a transition leads from a state that is listed to another such state or to DROPPED
abbrev pub is_known : ModelParts → StateId × StateId → Bool
is_known m t = has_state m t.0 && (has_state m t.1 || (t.1.0 == 1))

abbrev pub unknown_state : ModelParts → Option ModelFault
unknown_state m = fault_at UnknownState (position (λ t. not (is_known m t)) m.transitions)

abbrev pub self_loop : ModelParts → Option ModelFault
self_loop m = fault_at SelfLoop (position (λ t. t.0.0 == t.1.0) m.transitions)

abbrev pub twice_transition : ModelParts → Option ModelFault
twice_transition m = fault_at TwiceTransition (twice_place (λ t b. is_between t.0 t.1 b) m.transitions)

-- a replica in the initial state can be dropped
abbrev pub no_drop : ModelParts → Option ModelFault
no_drop m = if list_any (is_between m.initial dropped) m.transitions then None else Some NoDrop

-- each state can be reached from the initial state, and left to it
abbrev pub cant_reach : ModelParts → Option ModelFault
cant_reach m = option_map (λ s. CantReach s) (find (λ s. not (reaches m m.initial s)) (states_of m))

abbrev pub cant_leave : ModelParts → Option ModelFault
cant_leave m = option_map (λ s. CantLeave s) (find (λ s. not (reaches m s m.initial)) (states_of m))

-- the tests of the states, of the transitions, and of the walks
abbrev pub state_tests : List (ModelParts → Option ModelFault)
state_tests = too_many_states ∷ reserved_state ∷ reserved_transition ∷ twice_state ∷ zero_bound ∷ no_initial ∷ initial_bounded ∷ []

abbrev pub transition_tests : List (ModelParts → Option ModelFault)
transition_tests = unknown_state ∷ self_loop ∷ twice_transition ∷ no_drop ∷ []

abbrev pub walk_tests : List (ModelParts → Option ModelFault)
walk_tests = cant_reach ∷ cant_leave ∷ []

-- the first fault that some tests find
abbrev pub found_by : List (ModelParts → Option ModelFault) → ModelParts → Option ModelFault
found_by [] m = None
found_by (test ∷ tests) m = option_or (test m) (found_by tests m)

-- the first fault of all
abbrev pub fault_of : ModelParts → Option ModelFault
fault_of m = found_by (state_tests ++ transition_tests ++ walk_tests) m
