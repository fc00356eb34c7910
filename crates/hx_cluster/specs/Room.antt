-- Room for more: no number of a cluster comes near the end of its type.
use Rattle.std.specs.Prelude.{◌≡◌, ℕ, ◌<◌, ◌^◌, true, nat_lt}
use Rattle.std.specs.List.{list_all}
use Rattle.hx_cluster.specs.declared.state.Cluster.{Cluster}
use Rattle.hx_cluster.specs.Numbered.{IsNumbered}

-- half of what 64 bits count. No list in memory has so many items, so a call may raise a number below it by one for each item of a list
abbrev pub half : ℕ
half = 2 ^ 63

pub record HasRoom (c : Cluster) : Type 0 where
  pub ids : IsNumbered c
  pub sessions : c.next_session < half
  pub messages : c.next_msg < half
  pub changes : c.change < half
  pub epochs : c.epoch.0 < half
  pub passes : list_all (λ d. nat_lt d.1.0 half) c.controllers ≡ true
