-- The step that a script line asks for.
use Rattle.std.specs.Prelude.{ℕ, Option, None, Some, option_map}
use Rattle.hx_ids.specs.declared.ResourceId.{ResourceId}
use Rattle.hx_ids.specs.declared.PartId.{PartId}
use Rattle.hx_cluster.specs.declared.state.Cluster.{Cluster}
use Rattle.hx_cluster.specs.declared.happenings.Admin.{Admin}
use Rattle.hx_cluster.specs.declared.happenings.Admin.TheVariants as steps
use Rattle.hx_cluster.specs.Steps.{newest}
use Rattle.hx_script.specs.declared.What.{What}
use Rattle.hx_script.specs.declared.What.TheVariants as asks
use Rattle.hx_script.specs.NewIdeals.{bare_ideal}

-- a part of a resource
abbrev pub part_at : ℕ → ResourceId → PartId
part_at index r = record { resource = r; index = index }

-- the step of a line; none where it asks for no step, or its resource's name names no resource
abbrev pub step_asked : Cluster → What → Option Admin
step_asked c (asks.Join i) = Some (steps.Join i)
step_asked c (asks.Beat i) = Some (steps.Beat i)
step_asked c (asks.Drain i) = Some (steps.Drain i)
step_asked c (asks.Undrain i) = Some (steps.Undrain i)
step_asked c (asks.Tick n) = Some (steps.Tick n)
step_asked c (asks.Expire i) = Some (steps.End i)
step_asked c (asks.Die i) = Some (steps.End i)
step_asked c (asks.Add name model replicas parts mode) = Some (steps.Add name model (bare_ideal replicas parts mode))
step_asked c (asks.Drop name) = option_map (λ r. steps.Drop r) (newest c name)
step_asked c (asks.List name index list) = option_map (λ r. steps.SetList (part_at index r) list) (newest c name)
step_asked c (asks.Map name index map) = option_map (λ r. steps.SetMap (part_at index r) map) (newest c name)
step_asked c (asks.Reset i name index) = option_map (λ r. steps.Reset i (part_at index r)) (newest c name)
step_asked c (asks.Lead k) = Some (steps.Lead k)
step_asked c (asks.Stop k) = Some (steps.Stop k)
step_asked c (asks.Start k) = Some (steps.Start k)
step_asked c _ = None
