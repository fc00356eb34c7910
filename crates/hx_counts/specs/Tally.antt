-- Numbers of ends of replicas, and of loads under keys of throttle rules.
use Rattle.std.specs.Prelude.{ℕ, Bool, ◌==◌, ◌&&◌, List, unwrap_or}
use Rattle.std.specs.Map.{lookup}
use Rattle.hx_ids.specs.declared.PartId.{PartId}
use Rattle.hx_ids.specs.declared.StateId.{StateId}

-- the ends that are counted, each a part and a state with its number, and the keys that are loaded, each with its rule and its
-- number. Their order says nothing
pub record Numbers : Type 0 where
  pub ends : List ((PartId × StateId) × ℕ)
  pub loads : List ((ℕ × ℕ) × ℕ)

-- whether an end is of this part and state
abbrev pub is_end : PartId → StateId → PartId × StateId → Bool
is_end part state e = ((part.resource.0 == e.0.resource.0) && (part.index == e.0.index)) && (state.0 == e.1.0)

-- whether a load is of this rule and key
abbrev pub is_load : ℕ → ℕ → ℕ × ℕ → Bool
is_load rule key l = (rule == l.0) && (key == l.1)

-- how many ends there are of a part and state
abbrev pub ends_of : Numbers → PartId → StateId → ℕ
ends_of t part state = unwrap_or (lookup (is_end part state) t.ends) 0

-- how many loads there are of a rule and key
abbrev pub loads_of : Numbers → ℕ → ℕ → ℕ
loads_of t rule key = unwrap_or (lookup (is_load rule key) t.loads) 0
