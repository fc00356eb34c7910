-- Events that are told: lent, or made again.
use Rattle.hx_cluster.specs.declared.happenings.Event.{Event}
use Rattle.hx_history.specs.declared.told.Told.{Told}
use Rattle.hx_history.specs.declared.told.Told.TheVariants.{Kept, Made}

-- the event that is told
abbrev pub event_in : Told → Event
event_in (Kept event) = event.now
event_in (Made event) = event
