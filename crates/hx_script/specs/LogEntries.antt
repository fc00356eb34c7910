-- What the text of an event tells: all but change numbers and a post's rows.
use Rattle.std.specs.Prelude.{ℕ, List, [], ◌∷◌, length, map, Option, Some, unwrap_or, slice_get}
use Rattle.std.specs.Option.{option_map}
use Rattle.hx_ids.specs.declared.InstanceId.{InstanceId}
use Rattle.hx_ids.specs.declared.SessionId.{SessionId}
use Rattle.hx_ids.specs.declared.PartId.{PartId}
use Rattle.hx_ideal.specs.ModeKinds.{kind_of}
use Rattle.hx_cluster.specs.declared.state.Cluster.{Cluster}
use Rattle.hx_cluster.specs.declared.happenings.Admin.{Admin}
use Rattle.hx_cluster.specs.declared.happenings.Admin.TheVariants as steps
use Rattle.hx_cluster.specs.declared.happenings.Did.{Did}
use Rattle.hx_cluster.specs.declared.happenings.Proposal.{Proposal}
use Rattle.hx_cluster.specs.declared.happenings.Placed.{Placed}
use Rattle.hx_cluster.specs.declared.happenings.Event.{Event}
use Rattle.hx_cluster.specs.declared.happenings.Event.TheVariants as events
use Rattle.hx_cluster.specs.Ends.{instance_in, session_in}
use Rattle.hx_print.specs.declared.roll.Roll.{Roll}
use Rattle.hx_print.specs.Texts.{roll_of, joined_by, ended_by_tick, added_as, leads_in}
use Rattle.hx_script.specs.Modes.{mode_number}
use Rattle.hx_script.specs.declared.log.LogPart.{LogPart}
use Rattle.hx_script.specs.declared.log.LogMove.{LogMove}
use Rattle.hx_script.specs.declared.log.LogEntry.{LogEntry}
use Rattle.hx_script.specs.declared.log.LogEntry.TheVariants as logs

-- a part, with the name of its resource
abbrev pub part_told : List ℕ → PartId → LogPart
part_told names p = record { name = slice_get names p.resource.0; resource = p.resource; index = p.index }

-- a session that a tick ended, with its instance
abbrev pub ended_told : List (SessionId × InstanceId) → SessionId → InstanceId × SessionId
ended_told live s = (unwrap_or (instance_in live s) (record { 0 = 0 }), s)

-- a step with its answer; an answer that no such step gives tells nothing
abbrev pub step_told : Roll → Admin → Did → Option LogEntry
step_told roll (steps.Join i) did = option_map (logs.Join i) (joined_by did)
step_told roll (steps.End i) did = option_map (logs.End i) (session_in roll.live i)
step_told roll (steps.Beat i) did = option_map (logs.Beat i) (session_in roll.live i)
step_told roll (steps.Tick n) did = Some (logs.Tick n (map (ended_told roll.live) (ended_by_tick did)))
step_told roll (steps.Drain i) did = Some (logs.Drain i)
step_told roll (steps.Undrain i) did = Some (logs.Undrain i)
step_told roll (steps.Add name model ideal) did =
    option_map (λ r. logs.Add name r model ideal.replicas ideal.parts (mode_number (kind_of ideal.mode))) (added_as did)
step_told roll (steps.Drop r) did = Some (logs.Drop (slice_get roll.resources r.0) r)
step_told roll (steps.SetList p list) did = Some (logs.List (part_told roll.resources p) list)
step_told roll (steps.SetMap p map) did = Some (logs.Map (part_told roll.resources p) map)
step_told roll (steps.Reset i p) did = option_map (λ s. logs.Reset i s (part_told roll.resources p)) (session_in roll.live i)
step_told roll (steps.Lead k) did = option_map (logs.Lead k) (leads_in did)
step_told roll (steps.Stop k) did = Some (logs.Stop k)
step_told roll (steps.Start k) did = Some (logs.Start k)

-- a proposal and what became of it
abbrev pub move_told : List ℕ → Proposal → Placed → LogMove
move_told names q answer = record { session = q.session; part = part_told names q.part; from = q.from; to = q.to; answer = answer }

abbrev pub moves_told : List ℕ → List Proposal → List Placed → List LogMove
moves_told names [] answers = []
moves_told names (q ∷ qs) [] = []
moves_told names (q ∷ qs) (answer ∷ answers) = move_told names q answer ∷ moves_told names qs answers

-- an event
abbrev pub event_told : Roll → Event → Option LogEntry
event_told roll (events.Admin step did) = step_told roll step did
event_told roll (events.Line n) = Some (logs.Line n)
event_told roll (events.Begin k begun) = Some (logs.Begin k begun.epoch begun.pass)
event_told roll (events.Live k pass) = Some (logs.Live k pass)
event_told roll (events.Mail k pass s) = Some (logs.Mail k pass s)
event_told roll (events.States k pass s) = Some (logs.States k pass s)
event_told roll (events.Ideals k pass) = Some (logs.Ideals k pass)
event_told roll (events.Dispatch k epoch pass proposals answer) = Some (logs.Dispatch k epoch pass (moves_told roll.resources proposals answer.placed))
event_told roll (events.Post k epoch rows) = Some (logs.Post k epoch (length rows))
event_told roll (events.Fetch i s n) = Some (logs.Fetch i s n)
event_told roll (events.Take s id) = Some (logs.Take s id)
event_told roll (events.Write s id outcome) = Some (logs.Write s id outcome)
event_told roll (events.Ack s id) = Some (logs.Ack s id)

-- the same from the cluster before the event
abbrev pub entry_told_by : Cluster → Event → Option LogEntry
entry_told_by c e = event_told (roll_of c) e
