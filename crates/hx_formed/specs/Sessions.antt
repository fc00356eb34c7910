-- Live sessions as they are read, by instance.
use Rattle.std.specs.Prelude.{ℕ, ◌+◌, Bool, true, not, ◌&&◌, nat_lt, nat_le, List, [], ◌∷◌, Option, None, Some}
use Rattle.hx_ids.specs.declared.SessionId.{SessionId}
use Rattle.hx_ids.specs.declared.InstanceId.{InstanceId}
use Rattle.hx_cluster.specs.Ends.{is_shown}

-- their instances are in range and rise, from one on
abbrev pub instances_rise : ℕ → ℕ → List (SessionId × InstanceId) → Bool
instances_rise instances from [] = true
instances_rise instances from (e ∷ live) = nat_le from e.1.0 && nat_lt e.1.0 instances && instances_rise instances (e.1.0 + 1) live

-- their numbers rise, behind the last one
abbrev pub is_newer : Option SessionId → SessionId → Bool
is_newer None s = true
is_newer (Some last) s = nat_lt last.0 s.0

abbrev pub sessions_rise : Option SessionId → List (SessionId × InstanceId) → Bool
sessions_rise last [] = true
sessions_rise last (e ∷ live) = is_newer last e.0 && sessions_rise (Some e.0) live

-- none of them stands twice
abbrev pub are_distinct : List (SessionId × InstanceId) → Bool
are_distinct [] = true
are_distinct (e ∷ live) = not (is_shown live e.0) && are_distinct live
