-- What lines ask for that name no resource.
use Rattle.std.specs.Prelude.{Option, None, Some}
use Rattle.hx_cluster.specs.declared.happenings.Admin.{Admin}
use Rattle.hx_cluster.specs.declared.happenings.Admin.TheVariants as steps
use Rattle.hx_script.specs.declared.What.{What}
use Rattle.hx_script.specs.declared.What.TheVariants as asks

-- the step of such a line
abbrev pub nameless_step : What → Option Admin
nameless_step (asks.Join i) = Some (steps.Join i)
nameless_step (asks.Beat i) = Some (steps.Beat i)
nameless_step (asks.Drain i) = Some (steps.Drain i)
nameless_step (asks.Undrain i) = Some (steps.Undrain i)
nameless_step (asks.Tick n) = Some (steps.Tick n)
nameless_step (asks.Expire i) = Some (steps.End i)
nameless_step (asks.Die i) = Some (steps.End i)
nameless_step (asks.Lead k) = Some (steps.Lead k)
nameless_step (asks.Stop k) = Some (steps.Stop k)
nameless_step (asks.Start k) = Some (steps.Start k)
nameless_step _ = None
