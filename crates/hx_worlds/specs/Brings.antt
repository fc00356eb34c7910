-- What an operation brings is what it adds to a world: the events among its items to the history, and their weight.
use Rattle.std.specs.Prelude.{◌≡◌, ℕ, ◌+◌, List, ◌++◌}
use Rattle.hx_cluster.specs.declared.description.Spec.{Spec}
use Rattle.hx_cluster.specs.declared.state.Cluster.{Cluster}
use Rattle.hx_cluster.specs.declared.happenings.Event.{Event}
use Rattle.hx_cluster.specs.Events.{replay}
use Rattle.hx_worlds.specs.World.{State}
use Rattle.hx_worlds.specs.Items.{Item, events_in, items_weight}
use Rattle.hx_worlds.specs.Runs.{Run, items_of, state_of}

-- what a world's board has, apart from its controllers and participants
pub record Past : Type 0 where
  pub spec : Spec
  pub limit : ℕ
  pub history : List Event
  pub cluster : Cluster
  pub weight : ℕ

abbrev pub past_of : State → Past
past_of x = record {
  spec = x.world.spec;
  limit = x.world.limit;
  history = x.world.history;
  cluster = x.world.cluster;
  weight = x.world.weight;
}

pub record Brings (before : Past) (items : List Item) (after : Past) : Type 0 where
  pub spec : after.spec ≡ before.spec
  pub limit : after.limit ≡ before.limit
  pub history : after.history ≡ before.history ++ events_in items
  pub cluster : after.cluster ≡ replay before.cluster (events_in items)
  pub weight : after.weight ≡ before.weight + items_weight items

-- whether an operation goes on or stops
pub record BringsIts {A : Type 0} (before : Past) (r : Run A) : Type 0 where
  pub all : Brings before (items_of r) (past_of (state_of r))
