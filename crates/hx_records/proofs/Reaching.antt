-- What holds of each cluster that a legal history leads to.
use Rattle.std.proofs.Common.{◌≡◌, subst}
use Rattle.hx_cluster.specs.declared.state.Cluster.{Cluster}
use Rattle.hx_cluster.specs.Steps.{opening}
use Rattle.hx_cluster.specs.Events.{replay}
use Rattle.hx_safe.proofs.Whole.{IsWhole, reached_safe, reached_ranged, whole_from}
use Rattle.hx_cluster.specs.Ends.{limit_at}
use Rattle.hx_records.specs.Reached.{IsReached}

pub whole_reached : (c : Cluster) → IsReached c → IsWhole c
whole_reached c r =
    subst IsWhole r.replays
    (whole_from (limit_at (replay (opening r.spec) r.history)) (replay (opening r.spec) r.history)
    (reached_safe r.spec r.valid r.history r.legal) (reached_ranged r.spec r.valid r.history r.legal))
