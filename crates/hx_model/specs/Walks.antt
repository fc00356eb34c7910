-- Walks through a state model: lists of states in which each neighbouring pair is legal.
use Rattle.std.specs.Prelude.{ℕ, zero, suc, ◌+◌, Bool, ◌==◌, List, [], ◌∷◌, ◌++◌, length, map, filter, nat_lt, if◌then◌else◌}
use Rattle.std.specs.List.{list_any}
use Rattle.hx_ids.specs.declared.StateId.{StateId}
use Rattle.hx_model.specs.declared.ModelParts.{ModelParts}

-- where legal transitions lead from a state, in rank order
abbrev pub steps_from : ModelParts → StateId → List StateId
steps_from m s = map (λ t. t.1) (filter (λ t. t.0.0 == s.0) m.transitions) ++ (if s.0 == 0 then m.initial ∷ [] else [])

-- whether n legal transitions can lead from a state to the goal
abbrev pub has_walk : ModelParts → ℕ → StateId → StateId → Bool
has_walk m zero s goal = s.0 == goal.0
has_walk m (suc n) s goal = list_any (λ t. has_walk m n t goal) (steps_from m s)

-- the least number from n on that passes a test, among the first few; the one after them if there is none
abbrev pub least_from : (ℕ → Bool) → ℕ → ℕ → ℕ
least_from p n zero = n
least_from p n (suc few) = if p n then n else least_from p (n + 1) few

-- the least number of transitions that lead from a state to the goal. No shortest walk repeats a state
abbrev pub dist : ModelParts → StateId → StateId → ℕ
dist m s goal = least_from (λ n. has_walk m n s goal) 0 (length m.states + 2)

-- whether some walk leads from a state to the goal
abbrev pub reaches : ModelParts → StateId → StateId → Bool
reaches m s goal = nat_lt (dist m s goal) (length m.states + 2)
