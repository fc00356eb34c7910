-- How much a settle may still have to do.
use Rattle.std.specs.Prelude.{ℕ, ◌+◌, ◌*◌, length}
use Rattle.hx_cluster.specs.declared.state.Cluster.{Cluster}
use Rattle.hx_pass.specs.Left.{left_of}
use Rattle.hx_worlds.specs.Settles.{all_parts, most_states}
use Rattle.hx_settled.specs.Places.{tries_left}

-- each part on each live session
abbrev pub all_replicas : Cluster → ℕ
all_replicas c = length c.live * all_parts c.resources

-- more than all transitions that can be left at a time
abbrev pub all_walks : Cluster → ℕ
all_walks c = all_replicas c * (most_states c.models + 2) + 1

-- each try may bring all walks anew, and then there are the transitions that are left
abbrev pub work_left : Cluster → ℕ
work_left c = tries_left c * all_walks c + left_of c
