-- Clusters of which reads show the same, and the turns in which nothing changes.
use Rattle.std.specs.Prelude.{◌≡◌, ◌<◌, ◌⊎◌}
use Rattle.std.specs.List.{flat_map}
use Rattle.hx_cluster.specs.declared.state.Cluster.{Cluster}
use Rattle.hx_cluster.specs.declared.planning.View.{View}
use Rattle.hx_cluster.specs.Reads.{live_shown, mail_shown, states_shown, ideals_shown}

-- reads show the same of two clusters: beats, and the order in which sessions stand by them, aren't
-- shown
pub record ShowsTheSame (c d : Cluster) : Type 0 where
  pub live : live_shown d ≡ live_shown c
  pub mail : d.mail ≡ c.mail
  pub rows : d.rows ≡ c.rows
  pub ideals : ideals_shown d ≡ ideals_shown c

-- the change number rises, or it stands still and reads show the same
abbrev pub IsCounted : Cluster → Cluster → Type 0
IsCounted c d = (c.change < d.change) ⊎ ((d.change ≡ c.change) × ShowsTheSame c d)

-- what the reads of a turn show, where all are made at one moment: the mail and the states session
-- by session
abbrev pub read_at : Cluster → View
read_at c = record {
  live = live_shown c;
  mail = flat_map (λ e. mail_shown c e.0) (live_shown c);
  rows = flat_map (λ e. states_shown c e.0) (live_shown c);
  ideals = ideals_shown c;
}
