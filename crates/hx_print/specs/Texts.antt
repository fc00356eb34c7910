-- The texts that the program prints: names, log lines, notes, outcomes and views.
use Rattle.std.specs.Prelude.{ℕ, ◌+◌, Bool, not, ◌==◌, ◌||◌, List, [], ◌∷◌, ◌++◌, length, map, filter, Option, None, Some, unwrap_or, slice_get, codes, decimal}
use Rattle.std.specs.List.{flat_map, concat, filter_map, list_any}
use Rattle.std.specs.Option.{option_map, option_map_or}
use Rattle.hx_lists.specs.Lists.{numbers_below}
use Rattle.hx_ids.specs.declared.InstanceId.{InstanceId}
use Rattle.hx_ids.specs.declared.StateId.{StateId}
use Rattle.hx_ids.specs.declared.ModelId.{ModelId}
use Rattle.hx_ids.specs.declared.ResourceId.{ResourceId}
use Rattle.hx_ids.specs.declared.SessionId.{SessionId}
use Rattle.hx_ids.specs.declared.MsgId.{MsgId}
use Rattle.hx_ids.specs.declared.Epoch.{Epoch}
use Rattle.hx_ids.specs.declared.PassNo.{PassNo}
use Rattle.hx_ids.specs.declared.ControllerId.{ControllerId}
use Rattle.hx_ids.specs.declared.PartId.{PartId}
use Rattle.hx_ideal.specs.declared.Mode.{Mode}
use Rattle.hx_ideal.specs.ModeKinds.{kind_of, kind_name}
use Rattle.hx_ideal.specs.declared.IdealFault.{IdealFault}
use Rattle.hx_ideal.specs.declared.IdealFault.TheVariants as ideal_faults
use Rattle.hx_cluster.specs.declared.description.Resource.{Resource}
use Rattle.hx_cluster.specs.declared.description.Spec.{Spec}
use Rattle.hx_cluster.specs.declared.state.Row.{Row}
use Rattle.hx_cluster.specs.declared.state.Cluster.{Cluster}
use Rattle.hx_cluster.specs.declared.planning.Full.{Full}
use Rattle.hx_cluster.specs.declared.happenings.Admin.{Admin}
use Rattle.hx_cluster.specs.declared.happenings.Admin.TheVariants as steps
use Rattle.hx_cluster.specs.declared.happenings.Did.{Did}
use Rattle.hx_cluster.specs.declared.happenings.Did.TheVariants as dids
use Rattle.hx_cluster.specs.declared.happenings.StepFault.{StepFault}
use Rattle.hx_cluster.specs.declared.happenings.StepFault.TheVariants as faults
use Rattle.hx_cluster.specs.declared.happenings.Proposal.{Proposal}
use Rattle.hx_cluster.specs.declared.happenings.Placed.{Placed}
use Rattle.hx_cluster.specs.declared.happenings.Placed.TheVariants as placings
use Rattle.hx_cluster.specs.declared.happenings.Outcome.{Outcome}
use Rattle.hx_cluster.specs.declared.happenings.Outcome.TheVariants as outcomes
use Rattle.hx_cluster.specs.declared.happenings.Event.{Event}
use Rattle.hx_cluster.specs.declared.happenings.Event.TheVariants as events
use Rattle.hx_cluster.specs.Ends.{shown_of, instance_in, session_in, state_of}
use Rattle.hx_cluster.specs.Steps.{is_empty_list}
use Rattle.hx_cluster.specs.Reads.{live_shown}
use Rattle.hx_cluster.specs.Events.{next}
use Rattle.hx_print.specs.declared.Word.{Word}
use Rattle.hx_print.specs.declared.Word.TheVariants as turn_words
use Rattle.hx_print.specs.declared.roll.Roll.{Roll}
use Rattle.hx_print.specs.declared.Note.{Note}
use Rattle.hx_print.specs.declared.Note.TheVariants as notes

-- a line is words with one space between them
abbrev pub spaced : List (List ℕ) → List ℕ
spaced words = flat_map (λ w. codes " " ++ w) words

abbrev pub line_of : List (List ℕ) → List ℕ
line_of [] = codes "\n"
line_of (w ∷ ws) = w ++ spaced ws ++ codes "\n"

-- the start of a line, behind which further words are printed
abbrev pub start_of : List (List ℕ) → List ℕ
start_of [] = []
start_of (w ∷ ws) = w ++ spaced ws

-- names; a number without a name has the empty one
abbrev pub name_at : List (List ℕ) → ℕ → List ℕ
name_at names place = unwrap_or (slice_get names place) []

abbrev pub instance_name : Spec → InstanceId → List ℕ
instance_name spec i = name_at spec.instances i.0

abbrev pub state_name : Spec → StateId → List ℕ
state_name spec t = name_at spec.states t.0

abbrev pub model_name : Spec → ModelId → List ℕ
model_name spec m = name_at spec.model_names m.0

abbrev pub controller_name : ControllerId → List ℕ
controller_name k = codes "c" ++ decimal (k.0 + 1)

abbrev pub session_name : SessionId → List ℕ
session_name s = codes "s" ++ decimal s.0

abbrev pub message_name : MsgId → List ℕ
message_name m = codes "m" ++ decimal m.0

abbrev pub epoch_name : Epoch → List ℕ
epoch_name e = codes "e" ++ decimal e.0

abbrev pub pass_name : PassNo → List ℕ
pass_name p = codes "p" ++ decimal p.0

abbrev pub mode_name : Mode → List ℕ
mode_name mode = kind_name (kind_of mode)

abbrev pub outcome_name : Outcome → List ℕ
outcome_name outcomes.Ok = codes "ok"
outcome_name outcomes.Failed = codes "failed"

-- or `-` where there is none
abbrev pub or_dash : {X : Type 0} → (X → List ℕ) → Option X → List ℕ
or_dash name x = option_map_or name x (codes "-")

-- a resource's name with its number, and a part
abbrev pub names_of : List Resource → List ℕ
names_of resources = map (λ x. x.name) resources

abbrev pub name_of_resource : Spec → List ℕ → ResourceId → List ℕ
name_of_resource spec names r = option_map_or (name_at spec.resource_names) (slice_get names r.0) []

abbrev pub numbered : List ℕ → ResourceId → List ℕ
numbered name r = name ++ codes "#" ++ decimal r.0

abbrev pub part_of_name : List ℕ → PartId → List ℕ
part_of_name name p = numbered name p.resource ++ codes "/" ++ decimal p.index

abbrev pub part_in : Spec → List ℕ → PartId → List ℕ
part_in spec names p = part_of_name (name_of_resource spec names p.resource) p

abbrev pub resource_name : Spec → List Resource → ResourceId → List ℕ
resource_name spec resources r = name_of_resource spec (names_of resources) r

abbrev pub part_name : Spec → List Resource → PartId → List ℕ
part_name spec resources p = part_of_name (resource_name spec resources p.resource) p

abbrev pub move_text : Spec → StateId → StateId → List ℕ
move_text spec from to = state_name spec from ++ codes ">" ++ state_name spec to

-- an instance with a state, as maps and views have them
abbrev pub pair_name : Spec → List ℕ → InstanceId × StateId → List ℕ
pair_name spec sign e = instance_name spec e.0 ++ sign ++ state_name spec e.1

abbrev pub mapped_name : Spec → InstanceId × StateId → List ℕ
mapped_name spec e = pair_name spec (codes "=") e

abbrev pub seen_name : Spec → InstanceId × StateId → List ℕ
seen_name spec e = pair_name spec (codes ":") e

-- what the names in a log need of a cluster: the names of its resources, and the live sessions with their instances
abbrev pub roll_of : Cluster → Roll
roll_of c = record { resources = names_of c.resources; live = shown_of c.live }

-- a join, an end or a beat: the instance and its session
abbrev pub session_line : List ℕ → Spec → InstanceId → Option SessionId → List ℕ
session_line word spec i None = []
session_line word spec i (Some s) = line_of (word ∷ instance_name spec i ∷ session_name s ∷ [])

-- the session that a join opened, those that a tick ended, the number of an added resource, the epoch of a leader
abbrev pub joined_by : Did → Option SessionId
joined_by (dids.Joined s) = Some s
joined_by _ = None

abbrev pub ended_by_tick : Did → List SessionId
ended_by_tick (dids.Ended ss) = ss
ended_by_tick _ = []

abbrev pub added_as : Did → Option ResourceId
added_as (dids.Added r) = Some r
added_as _ = None

abbrev pub leads_in : Did → Option Epoch
leads_in (dids.Leads e) = Some e
leads_in _ = None

-- a session that a tick ended, with the instance that it had
abbrev pub ended_line : Spec → List (SessionId × InstanceId) → SessionId → List ℕ
ended_line spec live s = line_of (codes "  end" ∷ option_map_or (instance_name spec) (instance_in live s) [] ∷ session_name s ∷ [])

abbrev pub tick_text : Spec → List (SessionId × InstanceId) → ℕ → List SessionId → List ℕ
tick_text spec live n ended = line_of (codes "tick" ∷ decimal n ∷ []) ++ flat_map (ended_line spec live) ended

abbrev pub add_text : Spec → ℕ → ModelId → ℕ → ℕ → Mode → Option ResourceId → List ℕ
add_text spec name model replicas parts mode None = []
add_text spec name model replicas parts mode (Some r) =
    line_of (codes "add" ∷ numbered (name_at spec.resource_names name) r ∷ model_name spec model ∷ decimal replicas ∷ decimal parts ∷ mode_name mode ∷ [])

abbrev pub reset_text : Spec → List ℕ → InstanceId → PartId → Option SessionId → List ℕ
reset_text spec names i p None = []
reset_text spec names i p (Some s) = line_of (codes "reset" ∷ instance_name spec i ∷ session_name s ∷ part_in spec names p ∷ [])

abbrev pub lead_text : ControllerId → Option Epoch → List ℕ
lead_text k None = []
lead_text k (Some e) = line_of (codes "lead" ∷ controller_name k ∷ epoch_name e ∷ [])

-- what a step adds to the log
abbrev pub step_text : Spec → Roll → Admin → Did → List ℕ
step_text spec roll (steps.Join i) did = session_line (codes "join") spec i (joined_by did)
step_text spec roll (steps.End i) did = session_line (codes "end") spec i (session_in roll.live i)
step_text spec roll (steps.Beat i) did = session_line (codes "beat") spec i (session_in roll.live i)
step_text spec roll (steps.Tick n) did = tick_text spec roll.live n (ended_by_tick did)
step_text spec roll (steps.Drain i) did = line_of (codes "drain" ∷ instance_name spec i ∷ [])
step_text spec roll (steps.Undrain i) did = line_of (codes "undrain" ∷ instance_name spec i ∷ [])
step_text spec roll (steps.Add name model ideal) did = add_text spec name model ideal.replicas ideal.parts ideal.mode (added_as did)
step_text spec roll (steps.Drop r) did = line_of (codes "drop" ∷ numbered (name_of_resource spec roll.resources r) r ∷ [])
step_text spec roll (steps.SetList p list) did = line_of (codes "list" ∷ part_in spec roll.resources p ∷ map (instance_name spec) list)
step_text spec roll (steps.SetMap p entries) did = line_of (codes "map" ∷ part_in spec roll.resources p ∷ map (mapped_name spec) entries)
step_text spec roll (steps.Reset i p) did = reset_text spec roll.resources i p (session_in roll.live i)
step_text spec roll (steps.Lead k) did = lead_text k (leads_in did)
step_text spec roll (steps.Stop k) did = line_of (codes "stop" ∷ controller_name k ∷ [])
step_text spec roll (steps.Start k) did = line_of (codes "start" ∷ controller_name k ∷ [])

-- what became of a proposal, with the proposal behind it
abbrev pub placed_words : Spec → Placed → List (List ℕ)
placed_words spec (placings.Sent m) = codes "  sent" ∷ message_name m ∷ []
placed_words spec placings.Ended = codes "  ended" ∷ []
placed_words spec placings.ResourceDropped = codes "  dropped" ∷ []
placed_words spec (placings.Busy m) = codes "  busy" ∷ message_name m ∷ []
placed_words spec (placings.WrongFrom has) = codes "  from" ∷ or_dash (state_name spec) has ∷ []
placed_words spec placings.Illegal = codes "  illegal" ∷ []
placed_words spec (placings.OverBound count bound) = codes "  bound" ∷ decimal count ∷ codes "of" ∷ decimal bound ∷ []
placed_words spec (placings.OverThrottle rule load limit) = codes "  throttle" ∷ decimal rule ∷ decimal load ∷ codes "of" ∷ decimal limit ∷ []

abbrev pub proposal_words : Spec → List ℕ → Proposal → List (List ℕ)
proposal_words spec names q = session_name q.session ∷ part_in spec names q.part ∷ move_text spec q.from q.to ∷ []

abbrev pub placed_line : Spec → List ℕ → Proposal → Placed → List ℕ
placed_line spec names q answer = line_of (placed_words spec answer ++ proposal_words spec names q)

abbrev pub placed_lines : Spec → List ℕ → List Proposal → List Placed → List ℕ
placed_lines spec names [] answers = []
placed_lines spec names (q ∷ qs) [] = []
placed_lines spec names (q ∷ qs) (answer ∷ answers) = placed_line spec names q answer ++ placed_lines spec names qs answers

-- what an event adds to the log
abbrev pub event_text : Spec → Roll → Event → List ℕ
event_text spec roll (events.Admin step did) = step_text spec roll step did
event_text spec roll (events.Line n) = line_of (codes "line" ∷ decimal n ∷ [])
event_text spec roll (events.Begin k begun) = line_of (codes "begin" ∷ controller_name k ∷ epoch_name begun.epoch ∷ pass_name begun.pass ∷ [])
event_text spec roll (events.Live k pass) = line_of (codes "live" ∷ controller_name k ∷ pass_name pass ∷ [])
event_text spec roll (events.Mail k pass s) = line_of (codes "mail" ∷ controller_name k ∷ pass_name pass ∷ session_name s ∷ [])
event_text spec roll (events.States k pass s) = line_of (codes "states" ∷ controller_name k ∷ pass_name pass ∷ session_name s ∷ [])
event_text spec roll (events.Ideals k pass) = line_of (codes "ideals" ∷ controller_name k ∷ pass_name pass ∷ [])
event_text spec roll (events.Dispatch k epoch pass proposals answer) =
    line_of (codes "send" ∷ controller_name k ∷ epoch_name epoch ∷ pass_name pass ∷ []) ++ placed_lines spec roll.resources proposals answer.placed
event_text spec roll (events.Post k epoch rows) = line_of (codes "post" ∷ controller_name k ∷ epoch_name epoch ∷ decimal (length rows) ∷ [])
event_text spec roll (events.Fetch i s n) = line_of (codes "fetch" ∷ instance_name spec i ∷ or_dash session_name s ∷ decimal n ∷ [])
event_text spec roll (events.Take s m) = line_of (codes "take" ∷ session_name s ∷ message_name m ∷ [])
event_text spec roll (events.Write s m outcome) = line_of (codes "write" ∷ session_name s ∷ message_name m ∷ outcome_name outcome ∷ [])
event_text spec roll (events.Ack s m) = line_of (codes "ack" ∷ session_name s ∷ message_name m ∷ [])

-- the same from the cluster before the event
abbrev pub entry_text : Spec → Cluster → Event → List ℕ
entry_text spec c e = event_text spec (roll_of c) e

-- the log of events in order, from a cluster on
abbrev pub log_text : Spec → Cluster → List Event → List ℕ
log_text spec c [] = []
log_text spec c (e ∷ es) = entry_text spec c e ++ log_text spec (next c e) es

-- the words of a note: a refusal with what it tells. Faults that no script line meets have none
abbrev pub ideal_fault_words : IdealFault → List (List ℕ)
ideal_fault_words (ideal_faults.UnknownState part place) = codes "unknown-state" ∷ decimal place ∷ []
ideal_fault_words (ideal_faults.TwiceInList part place) = codes "twice-in-list" ∷ decimal place ∷ []
ideal_fault_words _ = []

abbrev pub step_fault_words : Spec → StepFault → List (List ℕ)
step_fault_words spec (faults.AlreadyLive s) = codes "already-live" ∷ session_name s ∷ []
step_fault_words spec faults.NotLive = codes "not-live" ∷ []
step_fault_words spec faults.ClockEnd = codes "clock-end" ∷ []
step_fault_words spec faults.AlreadySo = codes "already-so" ∷ []
step_fault_words spec (faults.NameInUse r) = codes "name-in-use" ∷ decimal r.0 ∷ []
step_fault_words spec faults.TooMany = codes "too-many" ∷ []
step_fault_words spec faults.AlreadyDropped = codes "already-dropped" ∷ []
step_fault_words spec faults.ResourceDropped = codes "resource-dropped" ∷ []
step_fault_words spec faults.WrongMode = codes "wrong-mode" ∷ []
step_fault_words spec (faults.NoPart parts) = codes "no-part" ∷ decimal parts ∷ []
step_fault_words spec (faults.Ideal f) = ideal_fault_words f
step_fault_words spec (faults.NotError state) = codes "not-error" ∷ or_dash (state_name spec) state ∷ []
step_fault_words spec faults.AlreadyAsked = codes "already-asked" ∷ []
step_fault_words spec (faults.LedBy k e) = codes "led-by" ∷ controller_name k ∷ epoch_name e ∷ []
step_fault_words spec faults.ControllerDown = codes "controller-down" ∷ []
step_fault_words spec faults.OutOfMemory = []

abbrev pub word_name : Word → List ℕ
word_name turn_words.Begin = codes "begin"
word_name turn_words.Live = codes "live"
word_name turn_words.Mail = codes "mail"
word_name turn_words.States = codes "states"
word_name turn_words.Ideals = codes "ideals"
word_name turn_words.Send = codes "send"
word_name turn_words.Post = codes "post"

abbrev pub note_words : Spec → Note → List (List ℕ)
note_words spec (notes.Step f) = step_fault_words spec f
note_words spec notes.NoResource = codes "no-resource" ∷ []
note_words spec (notes.NotLeader led_by) = codes "not-leader" ∷ or_dash controller_name led_by ∷ []
note_words spec notes.NoLeader = codes "no-leader" ∷ []
note_words spec (notes.OutOfTurn word) = codes "out-of-turn" ∷ word_name word ∷ []
note_words spec (notes.Fenced now) = codes "fenced" ∷ decimal now.0 ∷ []
note_words spec notes.NoMessage = codes "no-message" ∷ []
note_words spec (notes.OtherSession mine) = codes "other-session" ∷ or_dash session_name mine ∷ []
note_words spec (notes.Running m) = codes "running" ∷ message_name m ∷ []
note_words spec (notes.Repeat m) = codes "repeat" ∷ message_name m ∷ []
note_words spec (notes.WrongFrom has) = codes "wrong-from" ∷ state_name spec has ∷ []
note_words spec notes.NoJob = codes "no-job" ∷ []
note_words spec notes.SessionEnded = codes "session-ended" ∷ []

-- a note on a script line
abbrev pub note_line : ℕ → List (List ℕ) → List ℕ
note_line n [] = []
note_line n (w ∷ ws) = line_of (codes "!" ∷ decimal n ∷ w ∷ ws)

abbrev pub note_text : Spec → ℕ → Note → List ℕ
note_text spec n note = note_line n (note_words spec note)

-- the outcomes of a send, a pass and a settle
abbrev pub sent_text : ControllerId → ℕ → List ℕ
sent_text k n = line_of (codes "?" ∷ controller_name k ∷ codes "sent" ∷ decimal n ∷ [])

abbrev pub waiting_text : ControllerId → ℕ → List ℕ
waiting_text k n = line_of (codes "?" ∷ controller_name k ∷ codes "waiting" ∷ decimal n ∷ [])

abbrev pub moved_text : ControllerId → ℕ → ℕ → List ℕ
moved_text k from to = line_of (codes "?" ∷ controller_name k ∷ codes "moved" ∷ decimal from ∷ decimal to ∷ [])

abbrev pub settled_text : ControllerId → List ℕ
settled_text k = line_of (codes "?" ∷ controller_name k ∷ codes "settled" ∷ [])

abbrev pub settle_text : ControllerId → ℕ → List ℕ
settle_text k n = line_of (codes "?" ∷ codes "settle" ∷ controller_name k ∷ decimal n ∷ [])

-- a message that a participant accepted
abbrev pub accept_text : Spec → InstanceId → MsgId → List ℕ
accept_text spec i m = line_of (codes "?" ∷ instance_name spec i ∷ codes "accept" ∷ message_name m ∷ [])

-- a replica in ERROR that nobody asked to leave it; first with the name of the part's resource
abbrev pub failed_line : Spec → List ℕ → InstanceId → PartId → List ℕ
failed_line spec name i p = line_of (codes "?" ∷ codes "failed" ∷ instance_name spec i ∷ part_of_name name p ∷ [])

abbrev pub failed_text : Spec → List Resource → InstanceId → PartId → List ℕ
failed_text spec resources i p = failed_line spec (resource_name spec resources p.resource) i p

-- a replica that is kept from a state because others have it: they stand as they were shown, by instance
abbrev pub is_holder : List SessionId → SessionId × InstanceId → Bool
is_holder holders e = list_any (λ s. s.0 == e.0.0) holders

abbrev pub holder_names : Spec → List (SessionId × InstanceId) → List SessionId → List (List ℕ)
holder_names spec shown holders = map (λ e. instance_name spec e.1) (filter (is_holder holders) shown)

abbrev pub full_line : Spec → List ℕ → List (SessionId × InstanceId) → Full → List ℕ
full_line spec name shown full =
    line_of (codes "?" ∷ codes "full" ∷ instance_name spec full.candidate.instance ∷ part_of_name name full.candidate.part
    ∷ move_text spec full.candidate.from full.candidate.to ∷ decimal full.count ∷ codes "of" ∷ decimal full.bound
    ∷ holder_names spec shown full.holders)

abbrev pub full_text : Spec → List Resource → List (SessionId × InstanceId) → Full → List ℕ
full_text spec resources shown full = full_line spec (resource_name spec resources full.candidate.part.resource) shown full

-- words, or `-` where there are none
abbrev pub words_or_dash : List (List ℕ) → List (List ℕ)
words_or_dash [] = codes "-" ∷ []
words_or_dash (w ∷ ws) = w ∷ ws

-- the view of one part: who has a row of it, by instance
abbrev pub seen_line : Spec → List ℕ → PartId → List (InstanceId × StateId) → List ℕ
seen_line spec name p holders = line_of (codes "=" ∷ part_of_name name p ∷ words_or_dash (map (seen_name spec) holders))

abbrev pub view_line : Spec → List Resource → PartId → List (InstanceId × StateId) → List ℕ
view_line spec resources p holders = seen_line spec (resource_name spec resources p.resource) p holders

abbrev pub row_seen : List Row → PartId → SessionId × InstanceId → Option (InstanceId × StateId)
row_seen rows p e = option_map (λ t. (e.1, t)) (state_of rows e.0 p)

abbrev pub view_of_part : Cluster → PartId → List (InstanceId × StateId)
view_of_part c p = filter_map (row_seen c.rows p) (live_shown c)

-- the parts that a view shows: those of dropped resources only where somebody has a row
abbrev pub parts_at : ℕ → ℕ → List PartId
parts_at resource parts = map (λ index. record { resource = record { 0 = resource }; index = index }) (numbers_below parts)

abbrev pub is_viewed : Cluster → Bool → PartId → Bool
is_viewed c dropped p = not dropped || not (is_empty_list (view_of_part c p))

abbrev pub viewed_from : Cluster → ℕ → List Resource → List PartId
viewed_from c n [] = []
viewed_from c n (r ∷ rs) = filter (is_viewed c r.dropped) (parts_at n r.ideal.parts) ++ viewed_from c (n + 1) rs

abbrev pub viewed_parts : Cluster → List PartId
viewed_parts c = viewed_from c 0 c.resources

-- the view of a cluster, line by line and whole
abbrev pub view_lines : Spec → Cluster → List (List ℕ)
view_lines spec c = map (λ p. view_line spec c.resources p (view_of_part c p)) (viewed_parts c)

abbrev pub view_text : Spec → Cluster → List ℕ
view_text spec c = concat (view_lines spec c)

-- the instances in a state of a part
abbrev pub route_line : Spec → List ℕ → PartId → StateId → List InstanceId → List ℕ
route_line spec name p state instances =
    line_of (codes "=" ∷ codes "route" ∷ part_of_name name p ∷ state_name spec state ∷ words_or_dash (map (instance_name spec) instances))

abbrev pub route_text : Spec → List Resource → PartId → StateId → List InstanceId → List ℕ
route_text spec resources p state instances = route_line spec (resource_name spec resources p.resource) p state instances

-- messages sent, writes by outcome, joins, and sessions that ended
abbrev pub summary_text : ℕ → ℕ → ℕ → ℕ → ℕ → List ℕ
summary_text sent ok failed joined ended =
    line_of (codes "=" ∷ codes "summary" ∷ codes "sent" ∷ decimal sent ∷ codes "ok" ∷ decimal ok ∷ codes "failed" ∷ decimal failed
    ∷ codes "sessions" ∷ decimal joined ∷ codes "ended" ∷ decimal ended ∷ [])

-- the history has no room for more than this weight
abbrev pub history_full_text : ℕ → List ℕ
history_full_text weight = line_of (codes "history" ∷ codes "full" ∷ decimal weight ∷ [])
