-- A round of a settle by itself.
use Rattle.std.specs.Prelude.{Option, None, Some}
use Rattle.hx_ids.specs.declared.ControllerId.{ControllerId}
use Rattle.hx_cluster.specs.declared.planning.Report.{Report}
use Rattle.hx_control.specs.declared.PassOutcome.{PassOutcome}
use Rattle.hx_control.specs.declared.PassOutcome.TheVariants as ends
use Rattle.hx_worlds.specs.declared.Voice.TheVariants.{Quiet}
use Rattle.hx_worlds.specs.World.{State}
use Rattle.hx_worlds.specs.Runs.{Run, gives, go_on, and_then}
use Rattle.hx_worlds.specs.Turns.{do_pass}
use Rattle.hx_worlds.specs.Settles.{work_all}

-- the report of a turn that settled
abbrev pub report_of : Option PassOutcome → Option Report
report_of (Some (ends.Settled report)) = Some report
report_of _ = None

-- the rest of the leader's turn, then work, unless that turn settled: then its report
abbrev pub round_after : Option Report → State → Run (Option Report)
round_after (Some report) x = gives x (Some report)
round_after None x = and_then (work_all x) (λ y. gives y None)

abbrev pub round : ControllerId → State → Run (Option Report)
round k x = go_on (do_pass Quiet k x) (λ outcome y. round_after (report_of outcome) y)
