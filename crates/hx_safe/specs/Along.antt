-- What holds along a history.
use Rattle.std.specs.Prelude.{List, [], ◌∷◌}
use Rattle.hx_cluster.specs.declared.state.Cluster.{Cluster}
use Rattle.hx_cluster.specs.declared.happenings.Event.{Event}
use Rattle.hx_cluster.specs.Events.{next}

-- before each event, and after the last
abbrev pub HoldsAlong : (Cluster → Type 0) → Cluster → List Event → Type 0
HoldsAlong P c [] = P c
HoldsAlong P c (e ∷ es) = P c × HoldsAlong P (next c e) es
