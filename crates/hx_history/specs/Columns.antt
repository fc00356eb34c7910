-- The columns in which a history keeps its events.
use Rattle.std.specs.Prelude.{◌≡◌, ℕ, ◌/◌, ◌%◌, ◌^◌, List, [], ◌∷◌, ◌++◌, length, take, drop, Option, None, Some, option_to_list, slice_get, slice_index}
use Rattle.std.specs.List.{sum_by}
use Rattle.hx_ids.specs.declared.ControllerId.{ControllerId}
use Rattle.hx_ids.specs.declared.InstanceId.{InstanceId}
use Rattle.hx_ids.specs.declared.MsgId.{MsgId}
use Rattle.hx_ids.specs.declared.PassNo.{PassNo}
use Rattle.hx_ids.specs.declared.SessionId.{SessionId}
use Rattle.hx_ids.specs.Words.{instance, message, pass, session}
use Rattle.hx_cluster.specs.declared.happenings.Begun.{Begun}
use Rattle.hx_cluster.specs.declared.happenings.Admin.TheVariants as steps
use Rattle.hx_cluster.specs.declared.happenings.Did.TheVariants as dids
use Rattle.hx_cluster.specs.declared.happenings.Outcome.TheVariants as outcomes
use Rattle.hx_cluster.specs.declared.happenings.Event.{Event}
use Rattle.hx_cluster.specs.declared.happenings.Event.TheVariants as events
use Rattle.hx_history.specs.declared.kinds.Kind.{Kind}
use Rattle.hx_history.specs.declared.kinds.Kind.TheVariants as kinds

-- how many words tell an event of a kind, and how many events are kept as they are
abbrev pub words_of : Kind → ℕ
words_of kinds.Whole = 0
words_of kinds.Begin = 3
words_of kinds.LongMail = 2
words_of kinds.LongStates = 2
words_of kinds.LongFetch = 2
words_of kinds.LongTake = 2
words_of kinds.LongWriteOk = 2
words_of kinds.LongWriteFailed = 2
words_of kinds.LongAck = 2
words_of _ = 1

abbrev pub kept_of : Kind → ℕ
kept_of kinds.Whole = 1
kept_of _ = 0

-- a word of a turn: a controller and a pass of it
abbrev pub controller : ℕ → ControllerId
controller word = record { 0 = word % 2 ^ 8 }

abbrev pub pass_of : ℕ → PassNo
pass_of word = pass (word / 2 ^ 8)

-- a word of a read: a controller, the session that it reads of, and a pass
abbrev pub read_controller : ℕ → ControllerId
read_controller word = record { 0 = word % 2 ^ 4 }

abbrev pub read_session : ℕ → SessionId
read_session word = session (word / 2 ^ 4 % 2 ^ 12)

abbrev pub read_pass : ℕ → PassNo
read_pass word = pass (word / 2 ^ 16)

-- a word of a fetch: an instance, its session, and how many messages it fetched
abbrev pub fetch_instance : ℕ → InstanceId
fetch_instance word = instance (word % 2 ^ 10)

abbrev pub fetch_session : ℕ → SessionId
fetch_session word = session (word / 2 ^ 10 % 2 ^ 12)

abbrev pub fetch_count : ℕ → ℕ
fetch_count word = word / 2 ^ 22

-- the same without the session
abbrev pub instance_of : ℕ → InstanceId
instance_of word = instance (word % 2 ^ 16)

abbrev pub count_of : ℕ → ℕ
count_of word = word / 2 ^ 16

-- a word of a job: a session, and a message that was sent to it
abbrev pub session_of : ℕ → SessionId
session_of word = session (word / 2 ^ 20)

abbrev pub message_of : ℕ → MsgId
message_of word = message (word % 2 ^ 20)

abbrev pub begun : List ℕ → Begun
begun ws = record { epoch = record { 0 = slice_index ws 1 }; pass = pass_of (slice_index ws 0); change = slice_index ws 2 }

-- the event of a kind that words tell, or that was kept as it is
abbrev pub event_of : Kind → List ℕ → List Event → Option Event
event_of kinds.Line ws es = Some (events.Line (slice_index ws 0))
event_of kinds.Tick ws es = Some (events.Admin (steps.Tick (slice_index ws 0)) (dids.Ended []))
event_of kinds.Begin ws es = Some (events.Begin (controller (slice_index ws 0)) (begun ws))
event_of kinds.Live ws es = Some (events.Live (controller (slice_index ws 0)) (pass_of (slice_index ws 0)))
event_of kinds.Mail ws es = Some (events.Mail (read_controller (slice_index ws 0)) (read_pass (slice_index ws 0)) (read_session (slice_index ws 0)))
event_of kinds.States ws es = Some (events.States (read_controller (slice_index ws 0)) (read_pass (slice_index ws 0)) (read_session (slice_index ws 0)))
event_of kinds.Ideals ws es = Some (events.Ideals (controller (slice_index ws 0)) (pass_of (slice_index ws 0)))
event_of kinds.FetchNobody ws es = Some (events.Fetch (instance_of (slice_index ws 0)) None (count_of (slice_index ws 0)))
event_of kinds.Fetch ws es = Some (events.Fetch (fetch_instance (slice_index ws 0)) (Some (fetch_session (slice_index ws 0))) (fetch_count (slice_index ws 0)))
event_of kinds.Take ws es = Some (events.Take (session_of (slice_index ws 0)) (message_of (slice_index ws 0)))
event_of kinds.WriteOk ws es = Some (events.Write (session_of (slice_index ws 0)) (message_of (slice_index ws 0)) outcomes.Ok)
event_of kinds.WriteFailed ws es = Some (events.Write (session_of (slice_index ws 0)) (message_of (slice_index ws 0)) outcomes.Failed)
event_of kinds.Ack ws es = Some (events.Ack (session_of (slice_index ws 0)) (message_of (slice_index ws 0)))
event_of kinds.LongMail ws es = Some (events.Mail (controller (slice_index ws 0)) (pass_of (slice_index ws 0)) (session (slice_index ws 1)))
event_of kinds.LongStates ws es = Some (events.States (controller (slice_index ws 0)) (pass_of (slice_index ws 0)) (session (slice_index ws 1)))
event_of kinds.LongFetch ws es = Some (events.Fetch (instance_of (slice_index ws 0)) (Some (session (slice_index ws 1))) (count_of (slice_index ws 0)))
event_of kinds.LongTake ws es = Some (events.Take (session (slice_index ws 0)) (message (slice_index ws 1)))
event_of kinds.LongWriteOk ws es = Some (events.Write (session (slice_index ws 0)) (message (slice_index ws 1)) outcomes.Ok)
event_of kinds.LongWriteFailed ws es = Some (events.Write (session (slice_index ws 0)) (message (slice_index ws 1)) outcomes.Failed)
event_of kinds.LongAck ws es = Some (events.Ack (session (slice_index ws 0)) (message (slice_index ws 1)))
event_of kinds.Whole ws es = slice_get es 0

-- the events that columns tell: kinds, their words, and the events kept as they are
abbrev pub events_of : List Kind → List ℕ → List Event → List Event
events_of [] ws es = []
events_of (k ∷ ks) ws es =
    option_to_list (event_of k (take (words_of k) ws) (take (kept_of k) es)) ++ events_of ks (drop (words_of k) ws) (drop (kept_of k) es)

-- columns are as long as their kinds say
pub record Fit (ks : List Kind) (ws : List ℕ) (es : List Event) : Type 0 where
  pub words : length ws ≡ sum_by words_of ks
  pub kept : length es ≡ sum_by kept_of ks
