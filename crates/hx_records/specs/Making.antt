-- Steps that can be made.
use Rattle.std.specs.Prelude.{◌≡◌, None, true}
use Rattle.hx_cluster.specs.declared.state.Cluster.{Cluster}
use Rattle.hx_cluster.specs.declared.happenings.Admin.{Admin}
use Rattle.hx_cluster.specs.declared.happenings.Did.{Did}
use Rattle.hx_cluster.specs.Steps.{refusal_of, did_of, is_in_range}

-- nothing refuses a step, its ids are in range, and this is its answer
abbrev pub IsMakeable : Cluster → Admin → Did → Type 0
IsMakeable c step did = (refusal_of c step ≡ None) × (did ≡ did_of c step) × (is_in_range c step ≡ true)
