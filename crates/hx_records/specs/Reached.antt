-- Clusters that a legal history leads to.
use Rattle.std.specs.Prelude.{◌≡◌, List}
use Rattle.hx_cluster.specs.declared.description.Spec.{Spec}
use Rattle.hx_cluster.specs.declared.state.Cluster.{Cluster}
use Rattle.hx_cluster.specs.declared.happenings.Event.{Event}
use Rattle.hx_cluster.specs.Steps.{opening}
use Rattle.hx_cluster.specs.Events.{replay, IsLegal}
use Rattle.hx_cluster.specs.Valid.{IsValid}

-- a legal history from the opening of a valid description leads to the cluster
pub record IsReached (c : Cluster) : Type 0 where
  pub spec : Spec
  pub history : List Event
  pub valid : IsValid spec
  pub legal : IsLegal (opening spec) history
  pub replays : replay (opening spec) history ≡ c
