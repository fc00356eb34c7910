-- The event that an entry of a log tells, where the cluster answers it so. What the text leaves out, change numbers and a post's rows,
-- comes from the cluster and from what the controller was shown.
use Rattle.std.specs.Prelude.{ℕ, Bool, true, false, ◌==◌, ◌&&◌, List, map, length, Option, None, Some, is_none, is_some}
use Rattle.std.specs.List.{list_all}
use Rattle.std.specs.Cmp.Lexicographic.{pointwise}
use Rattle.std.specs.Option.{option_eq}
use Rattle.hx_ids.specs.declared.InstanceId.{InstanceId}
use Rattle.hx_ids.specs.declared.StateId.{StateId}
use Rattle.hx_ids.specs.declared.ControllerId.{ControllerId}
use Rattle.hx_ids.specs.declared.ResourceId.{ResourceId}
use Rattle.hx_ids.specs.declared.SessionId.{SessionId}
use Rattle.hx_ids.specs.declared.PartId.{PartId}
use Rattle.hx_ids.specs.declared.Epoch.{Epoch}
use Rattle.hx_ids.specs.declared.PassNo.{PassNo}
use Rattle.hx_cluster.specs.declared.description.Resource.{Resource}
use Rattle.hx_cluster.specs.declared.state.Cluster.{Cluster}
use Rattle.hx_cluster.specs.declared.happenings.Admin.{Admin}
use Rattle.hx_cluster.specs.declared.happenings.Admin.TheVariants as steps
use Rattle.hx_cluster.specs.declared.happenings.Proposal.{Proposal}
use Rattle.hx_cluster.specs.declared.happenings.Placed.{Placed}
use Rattle.hx_cluster.specs.declared.happenings.Placed.TheVariants as placings
use Rattle.hx_cluster.specs.declared.happenings.Seen.{Seen}
use Rattle.hx_cluster.specs.declared.happenings.Event.{Event}
use Rattle.hx_cluster.specs.declared.happenings.Event.TheVariants as events
use Rattle.hx_cluster.specs.Ends.{shown_of, resource_at}
use Rattle.hx_cluster.specs.Steps.{refusal_of, did_of, is_in_range, has_instance, has_controller, is_leader, session_of, ended_by}
use Rattle.hx_cluster.specs.Reads.{messages_for}
use Rattle.hx_cluster.specs.Messages.{placed_all, next_pass}
use Rattle.hx_cluster.specs.Events.{begun_of, dispatched_of, is_proposable, is_postable, is_later, is_pass, is_epoch, can_take, can_write, can_ack}
use Rattle.hx_pass.specs.Turns.{posted_of}
use Rattle.hx_script.specs.declared.log.LogPart.{LogPart}
use Rattle.hx_script.specs.declared.log.LogMove.{LogMove}
use Rattle.hx_script.specs.declared.log.LogEntry.{LogEntry}
use Rattle.hx_script.specs.declared.log.LogEntry.TheVariants as logs
use Rattle.hx_script.specs.LogEntries.{ended_told}
use Rattle.hx_script.specs.Modes.{mode_numbered}
use Rattle.hx_script.specs.NewIdeals.{bare_ideal}
use Rattle.hx_check.specs.Standing.{Standing, turn_in}

-- whether numbers are the same
abbrev pub same_session : SessionId → SessionId → Bool
same_session a b = a.0 == b.0

abbrev pub same_state : StateId → StateId → Bool
same_state a b = a.0 == b.0

abbrev pub is_session_now : Cluster → InstanceId → SessionId → Bool
is_session_now c i s = option_eq same_session (session_of c i) (Some s)

abbrev pub same_ended : InstanceId × SessionId → InstanceId × SessionId → Bool
same_ended a b = (a.0.0 == b.0.0) && same_session a.1 b.1

abbrev pub same_answer : Placed → Placed → Bool
same_answer (placings.Sent a) (placings.Sent b) = a.0 == b.0
same_answer placings.Ended placings.Ended = true
same_answer placings.ResourceDropped placings.ResourceDropped = true
same_answer (placings.Busy a) (placings.Busy b) = a.0 == b.0
same_answer (placings.WrongFrom a) (placings.WrongFrom b) = option_eq same_state a b
same_answer placings.Illegal placings.Illegal = true
same_answer (placings.OverBound n bound) (placings.OverBound m other) = (n == m) && (bound == other)
same_answer (placings.OverThrottle k n limit) (placings.OverThrottle j m other) = (k == j) && (n == m) && (limit == other)
same_answer a b = false

-- a resource is there under the name that the log gives it
abbrev pub has_name : Option ℕ → Option Resource → Bool
has_name (Some name) (Some r) = r.name == name
has_name name r = false

abbrev pub is_named : Cluster → Option ℕ → ResourceId → Bool
is_named c name r = has_name name (resource_at c.resources r)

abbrev pub part_of : LogPart → PartId
part_of p = record { resource = p.resource; index = p.index }

abbrev pub is_part : Cluster → LogPart → Bool
is_part c p = is_named c p.name p.resource

-- the event, where it is so
abbrev pub where_so : Bool → Event → Option Event
where_so true e = Some e
where_so false e = None

-- a step that nothing refuses, where the rest of its text agrees
abbrev pub stepped_if : Cluster → Bool → Admin → Option Event
stepped_if c agrees step = where_so (agrees && is_in_range c step && is_none (refusal_of c step)) (events.Admin step (did_of c step))

-- a begin of the leader, whose answer has these numbers
abbrev pub begun_if : Cluster → ControllerId → Epoch → PassNo → Option Event
begun_if c k epoch pass =
    where_so (has_controller c k && is_leader k c.leader && ((begun_of c k).epoch.0 == epoch.0) && ((begun_of c k).pass.0 == pass.0))
    (events.Begin k (begun_of c k))

-- a dispatch, of which each proposal gets the answer that the log gives it
abbrev pub proposal_of : LogMove → Proposal
proposal_of m = record { session = m.session; part = part_of m.part; from = m.from; to = m.to }

abbrev pub is_move : Cluster → LogMove → Bool
is_move c m = is_part c m.part && is_proposable c (proposal_of m)

abbrev pub are_answers : Cluster → ControllerId → List LogMove → Bool
are_answers c k moves = pointwise same_answer (map (λ m. m.answer) moves) (placed_all (next_pass c k) (map proposal_of moves))

abbrev pub dispatched_if : Cluster → ControllerId → Epoch → PassNo → List LogMove → Option Event
dispatched_if c k epoch pass moves =
    where_so (list_all (is_move c) moves && is_epoch c epoch && is_pass c k pass && are_answers c k moves)
    (events.Dispatch k epoch pass (map proposal_of moves) (dispatched_of c k (map proposal_of moves)))

-- a post of the rows that the controller was shown
abbrev pub posted_if : Cluster → ControllerId → Epoch → ℕ → List Seen → Option Event
posted_if c k epoch n rows =
    where_so (has_controller c k && is_epoch c epoch && (length rows == n) && list_all (is_postable c) rows) (events.Post k epoch rows)

-- a fetch, of an instance's session and the number of its messages
abbrev pub fetched_if : Cluster → InstanceId → Option SessionId → ℕ → Option Event
fetched_if c i s n =
    where_so (has_instance c i && option_eq same_session s (session_of c i) && (length (messages_for c s) == n)) (events.Fetch i s n)

-- what each entry tells
abbrev pub answered_in : Standing → Cluster → LogEntry → Option Event
answered_in w c (logs.Line n) = where_so (is_later c.line n) (events.Line n)
answered_in w c (logs.Join i s) = stepped_if c (s.0 == c.next_session) (steps.Join i)
answered_in w c (logs.End i s) = stepped_if c (is_session_now c i s) (steps.End i)
answered_in w c (logs.Beat i s) = stepped_if c (is_session_now c i s) (steps.Beat i)
answered_in w c (logs.Tick n ended) =
    stepped_if c (pointwise same_ended ended (map (ended_told (shown_of c.live)) (ended_by c n))) (steps.Tick n)
answered_in w c (logs.Drain i) = stepped_if c true (steps.Drain i)
answered_in w c (logs.Undrain i) = stepped_if c true (steps.Undrain i)
answered_in w c (logs.Add name r model replicas parts mode) =
    stepped_if c ((r.0 == length c.resources) && is_some (mode_numbered mode)) (steps.Add name model (bare_ideal replicas parts mode))
answered_in w c (logs.Drop name r) = stepped_if c (is_named c name r) (steps.Drop r)
answered_in w c (logs.List p list) = stepped_if c (is_part c p) (steps.SetList (part_of p) list)
answered_in w c (logs.Map p entries) = stepped_if c (is_part c p) (steps.SetMap (part_of p) entries)
answered_in w c (logs.Reset i s p) = stepped_if c (is_part c p && is_session_now c i s) (steps.Reset i (part_of p))
answered_in w c (logs.Lead k epoch) = stepped_if c (epoch.0 == c.epoch.0) (steps.Lead k)
answered_in w c (logs.Stop k) = stepped_if c true (steps.Stop k)
answered_in w c (logs.Start k) = stepped_if c true (steps.Start k)
answered_in w c (logs.Begin k epoch pass) = begun_if c k epoch pass
answered_in w c (logs.Live k pass) = where_so (is_pass c k pass) (events.Live k pass)
answered_in w c (logs.Mail k pass s) = where_so (is_pass c k pass) (events.Mail k pass s)
answered_in w c (logs.States k pass s) = where_so (is_pass c k pass) (events.States k pass s)
answered_in w c (logs.Ideals k pass) = where_so (is_pass c k pass) (events.Ideals k pass)
answered_in w c (logs.Dispatch k epoch pass moves) = dispatched_if c k epoch pass moves
answered_in w c (logs.Post k epoch n) = posted_if c k epoch n (posted_of (turn_in w k).view)
answered_in w c (logs.Fetch i s n) = fetched_if c i s n
answered_in w c (logs.Take s id) = where_so (can_take c s id) (events.Take s id)
answered_in w c (logs.Write s id outcome) = where_so (can_write c s id) (events.Write s id outcome)
answered_in w c (logs.Ack s id) = where_so (can_ack c s id) (events.Ack s id)

abbrev pub answered : Standing → LogEntry → Option Event
answered w entry = answered_in w w.cluster entry
