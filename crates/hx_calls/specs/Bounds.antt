-- Bounds that are alike.
use Rattle.std.specs.Prelude.{Bool, true, false, ◌==◌}
use Rattle.hx_model.specs.declared.Bound.{Bound}
use Rattle.hx_model.specs.declared.Bound.TheVariants.{Count, Replicas, Live, Free}

abbrev pub is_same_bound : Bound → Bound → Bool
is_same_bound (Count m) (Count n) = m == n
is_same_bound Replicas Replicas = true
is_same_bound Live Live = true
is_same_bound Free Free = true
is_same_bound _ _ = false
