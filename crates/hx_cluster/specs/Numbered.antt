-- Words on the conditions of steps.
use Rattle.std.specs.Prelude.{◌^◌, ◌<◌, Bool, true, false, length}
use Rattle.hx_cluster.specs.declared.state.Cluster.{Cluster}
use Rattle.hx_cluster.specs.declared.happenings.Admin.{Admin}
use Rattle.hx_cluster.specs.declared.happenings.Admin.TheVariants as steps

-- the numbers of instances and resources fit their ids
pub record IsNumbered (c : Cluster) : Type 0 where
  pub instances : length c.instances < 2 ^ 32
  pub resources : length c.resources < 2 ^ 32

-- an end, which takes no memory
abbrev pub is_end : Admin → Bool
is_end (steps.End i) = true
is_end _ = false
