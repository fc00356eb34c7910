-- What the log line of a step needs of the cluster before it.
use Rattle.std.specs.Prelude.{Bool, true, false, if◌then◌else◌, []}
use Rattle.hx_cluster.specs.Ends.{shown_of}
use Rattle.hx_cluster.specs.declared.happenings.Admin.{Admin}
use Rattle.hx_cluster.specs.declared.happenings.Admin.TheVariants as steps
use Rattle.hx_cluster.specs.declared.state.Cluster.{Cluster}
use Rattle.hx_print.specs.declared.roll.Roll.{Roll}
use Rattle.hx_print.specs.Texts.{names_of}

-- whether it names a resource by its number
abbrev pub names_resources : Admin → Bool
names_resources (steps.Drop r) = true
names_resources (steps.SetList p list) = true
names_resources (steps.SetMap p entries) = true
names_resources (steps.Reset i p) = true
names_resources step = false

-- whether it names a session that was live
abbrev pub names_sessions : Admin → Bool
names_sessions (steps.End i) = true
names_sessions (steps.Beat i) = true
names_sessions (steps.Tick n) = true
names_sessions (steps.Reset i p) = true
names_sessions step = false

-- the roll of what it names
abbrev pub step_roll : Cluster → Admin → Roll
step_roll c step = record {
  resources = if names_resources step then names_of c.resources else [];
  live = if names_sessions step then shown_of c.live else [];
}
