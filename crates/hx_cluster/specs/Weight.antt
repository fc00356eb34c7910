-- What each event weighs.
use Rattle.std.specs.Prelude.{ℕ, ◌+◌, ◌*◌, Bool, List, [], ◌∷◌, length, if◌then◌else◌}
use Rattle.hx_cluster.specs.declared.state.Message.{Message}
use Rattle.hx_cluster.specs.declared.state.Cluster.{Cluster}
use Rattle.hx_cluster.specs.declared.happenings.Admin.{Admin}
use Rattle.hx_cluster.specs.declared.happenings.Admin.TheVariants as steps
use Rattle.hx_cluster.specs.declared.happenings.Event.{Event}
use Rattle.hx_cluster.specs.declared.happenings.Event.TheVariants as events

-- a step: a join also pays for its session's end
abbrev pub step_weight : Admin → ℕ
step_weight (steps.Join i) = 2
step_weight (steps.End i) = 0
step_weight (steps.Add name model ideal) = 1 + ideal.parts
step_weight (steps.SetList p list) = 1 + length list
step_weight (steps.SetMap p map) = 1 + length map
step_weight _ = 1

-- an event: a dispatch also pays for the take, the write and the acknowledgement of each message
abbrev pub weight_of : Event → ℕ
weight_of (events.Admin step did) = step_weight step
weight_of (events.Dispatch k epoch pass proposals answer) = 1 + 4 * length proposals
weight_of (events.Post k epoch rows) = 1 + length rows
weight_of (events.Take s id) = 0
weight_of (events.Write s id outcome) = 0
weight_of (events.Ack s id) = 0
weight_of _ = 1

abbrev pub weight_of_all : List Event → ℕ
weight_of_all [] = 0
weight_of_all (e ∷ es) = weight_of e + weight_of_all es

-- the events that were paid for and may still come: of a message the take, the write and the acknowledgement, and of each live session
-- its end
abbrev pub one_unless : Bool → ℕ
one_unless b = if b then 0 else 1

abbrev pub owed_by : Message → ℕ
owed_by m = 1 + one_unless m.taken + one_unless m.written

abbrev pub owed_in : List Message → ℕ
owed_in [] = 0
owed_in (m ∷ ms) = owed_by m + owed_in ms

abbrev pub owed_of : Cluster → ℕ
owed_of c = length c.live + owed_in c.mail
