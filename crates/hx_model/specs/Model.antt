-- State models, seen as what they are made of.
use Rattle.std.specs.Prelude.{ℕ, Bool, ◌==◌, ◌&&◌, ◌||◌, List, map, Option, None, Some}
use Rattle.std.specs.List.{list_any, find, position_or_len}
use Rattle.std.specs.Option.{option_map_or}
use Rattle.hx_ids.specs.declared.StateId.{StateId}
use Rattle.hx_model.specs.declared.Bound.{Bound}
use Rattle.hx_model.specs.declared.Bound.TheVariants.{Count, Replicas, Live, Free}
use Rattle.hx_model.specs.declared.ModelParts.{ModelParts}

-- the state of a replica whose handler failed, and that of one that is no longer wanted
abbrev pub error : StateId
error = record { 0 = 0 }

abbrev pub dropped : StateId
dropped = record { 0 = 1 }

-- the states, in priority order
abbrev pub states_of : ModelParts → List StateId
states_of m = map (λ p. p.0) m.states

-- whether it is among them
abbrev pub has_state : ModelParts → StateId → Bool
has_state m s = list_any (λ p. p.0.0 == s.0) m.states

-- whether a transition has these ends
abbrev pub is_between : StateId → StateId → StateId × StateId → Bool
is_between from to t = (t.0.0 == from.0) && (t.1.0 == to.0)

-- a transition that is listed, or from ERROR to the initial state
abbrev pub is_legal : ModelParts → StateId → StateId → Bool
is_legal m from to = list_any (is_between from to) m.transitions || ((from.0 == 0) && (to.0 == m.initial.0))

-- its place in the list, or the list's length from ERROR to the initial state
abbrev pub rank_of : ModelParts → StateId → StateId → ℕ
rank_of m from to = position_or_len (is_between from to) m.transitions

-- a state's bound. ERROR and DROPPED have none
abbrev pub bound_of : ModelParts → StateId → Bound
bound_of m s = option_map_or (λ p. p.1) (find (λ p. p.0.0 == s.0) m.states) Free

-- how many replicas a bound allows, with the resource's replicas and the number of live sessions
abbrev pub limit_of : Bound → ℕ → ℕ → Option ℕ
limit_of (Count n) replicas live = Some n
limit_of Replicas replicas live = Some replicas
limit_of Live replicas live = Some live
limit_of Free replicas live = None
