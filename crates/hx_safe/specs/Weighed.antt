-- What the numbers of a cluster are at most, by what its history weighs.
use Rattle.std.specs.Prelude.{◌≡◌, ℕ, ◌+◌, ◌≤◌, true, nat_le}
use Rattle.std.specs.List.{list_all}
use Rattle.hx_cluster.specs.declared.state.Cluster.{Cluster}
use Rattle.hx_cluster.specs.Weight.{owed_of}

-- each change was paid for, and so is each event that is owed; and no number is drawn for nothing
pub record IsWeighed (c : Cluster) (w : ℕ) : Type 0 where
  pub changes : c.change + owed_of c ≤ w
  pub sessions : c.next_session ≤ w + 1
  pub messages : c.next_msg ≤ w + 1
  pub epochs : c.epoch.0 ≤ w + 1
  pub passes : list_all (λ d. nat_le d.1.0 w) c.controllers ≡ true
