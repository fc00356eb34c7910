-- Instances that take the parts of a resource in turn.
use Rattle.std.specs.Prelude.{ℕ, ◌+◌, ◌*◌, ◌%◌, List, map, min}
use Rattle.hx_lists.specs.Lists.{numbers_below}

-- the instances of a part, by their places among all: as many as there are replicas, or all,
-- each part from where the one before it ended
abbrev pub round_robin_list : ℕ → ℕ → ℕ → List ℕ
round_robin_list instances replicas part =
    let k = min replicas instances in map (λ j. (part * k + j) % instances) (numbers_below k)

-- the lists of all parts
abbrev pub round_robin : ℕ → ℕ → ℕ → List (List ℕ)
round_robin instances parts replicas = map (round_robin_list instances replicas) (numbers_below parts)
