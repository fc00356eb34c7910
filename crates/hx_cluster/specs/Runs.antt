-- The runs of handlers in a history. A run is a take, and the write of the same session and number where that stands.
use Rattle.std.specs.Prelude.{◌≡◌, ◌≤◌, Bool, true, false, not, ◌==◌, ◌&&◌, ◌||◌, List, [], ◌∷◌, ◌++◌, Option, None, Some, if◌then◌else◌, nat_lt}
use Rattle.std.specs.List.{list_any, All}
use Rattle.hx_lists.specs.Lists.{count}
use Rattle.hx_ids.specs.declared.MsgId.{MsgId}
use Rattle.hx_model.specs.Model.{is_legal}
use Rattle.hx_cluster.specs.declared.state.Message.{Message}
use Rattle.hx_cluster.specs.declared.state.Cluster.{Cluster}
use Rattle.hx_cluster.specs.declared.happenings.Event.{Event}
use Rattle.hx_cluster.specs.declared.happenings.Event.TheVariants as events
use Rattle.hx_cluster.specs.Ends.{part_eq, is_live, model_of}
use Rattle.hx_cluster.specs.Messages.{pending_of, standing_of, is_same, next_pass, sent_all}
use Rattle.hx_cluster.specs.Events.{next}

-- whether an event takes the message of a number
abbrev pub takes : MsgId → Event → Bool
takes id (events.Take s n) = n.0 == id.0
takes id _ = false

-- the message that an event takes
abbrev pub taken_by : Cluster → Event → Option Message
taken_by c (events.Take s id) = pending_of c s id
taken_by c _ = None

-- the messages that were taken, in order
abbrev pub put_first : Option Message → List Message → List Message
put_first None ms = ms
put_first (Some m) ms = m ∷ ms

abbrev pub runs_of : Cluster → List Event → List Message
runs_of c [] = []
runs_of c (e ∷ es) = put_first (taken_by c e) (runs_of (next c e) es)

-- the messages that an event sends
abbrev pub sent_in : Cluster → Event → List Message
sent_in c (events.Dispatch k epoch pass proposals answer) = sent_all (next_pass c k) proposals
sent_in c _ = []

-- each taken message was sent before, and is the one that was sent but for its marks. So the session that takes it is the one that
-- it was sent to
abbrev pub is_sent_before : List Message → Option Message → Bool
is_sent_before sent None = true
is_sent_before sent (Some m) = list_any (is_same m) sent

abbrev pub each_is_sent : Cluster → List Message → List Event → Bool
each_is_sent c sent [] = true
each_is_sent c sent (e ∷ es) = is_sent_before sent (taken_by c e) && each_is_sent (next c e) (sent ++ sent_in c e) es

-- whether a write of a message stands among events
abbrev pub writes_run : Message → Event → Bool
writes_run m (events.Write s id outcome) = (s.0 == m.session.0) && (id.0 == m.id.0)
writes_run m _ = false

-- from a place on, until its write or as long as its session is live, a message's replica stands at from
abbrev pub StandsUntilWritten : Cluster → Message → List Event → Type 0
StandsUntilWritten c m [] = is_live c.live m.session ≡ true → (standing_of c m.session m.part).0 ≡ m.from.0
StandsUntilWritten c m (e ∷ es) =
    (is_live c.live m.session ≡ true → (standing_of c m.session m.part).0 ≡ m.from.0)
    × (writes_run m e ≡ false → StandsUntilWritten (next c e) m es)

-- so does that of each message from its send on
abbrev pub EachStands : Cluster → List Event → Type 0
EachStands c [] = Unit {0}
EachStands c (e ∷ es) = All (λ m. StandsUntilWritten (next c e) m es) (sent_in c e) × EachStands (next c e) es

-- no run of the same session and part begins before this one's write
abbrev pub is_same_replica : Message → Option Message → Bool
is_same_replica m None = false
is_same_replica m (Some n) = (n.session.0 == m.session.0) && part_eq n.part m.part

abbrev pub no_other_before_write : Cluster → Message → List Event → Bool
no_other_before_write c m [] = true
no_other_before_write c m (e ∷ es) =
    if writes_run m e then true
    else not (is_same_replica m (taken_by c e)) && no_other_before_write (next c e) m es

-- what holds of a run that begins with an event: it is legal, and no other run of the replica overlaps it
pub record IsRun (c : Cluster) (m : Message) (rest : List Event) : Type 0 where
  pub legal : is_legal (model_of c.models c.resources m.part.resource) m.from m.to ≡ true
  pub alone : no_other_before_write c m rest ≡ true

abbrev pub RunsFrom : Cluster → List Event → Option Message → Type 0
RunsFrom c rest None = Unit {0}
RunsFrom c rest (Some m) = IsRun c m rest

abbrev pub EachRun : Cluster → List Event → Type 0
EachRun c [] = Unit {0}
EachRun c (e ∷ es) = RunsFrom (next c e) es (taken_by c e) × EachRun (next c e) es

-- the runs of each replica come in order of number
abbrev pub is_below_later : Message → List Message → Bool
is_below_later m [] = true
is_below_later m (n ∷ ns) = (not (is_same_replica m (Some n)) || nat_lt m.id.0 n.id.0) && is_below_later m ns

abbrev pub numbers_rise : List Message → Bool
numbers_rise [] = true
numbers_rise (m ∷ ms) = is_below_later m ms && numbers_rise ms

-- no number is taken twice; each taken message was sent to the session that takes it; each message's replica stands at its place from
-- the send to the write; each run is legal and alone; and the runs of a replica come in order
pub record IsOneRunEach (c : Cluster) (h : List Event) : Type 0 where
  pub once : (id : MsgId) → count (takes id) h ≤ 1
  pub sent : each_is_sent c [] h ≡ true
  pub stands : EachStands c h
  pub each : EachRun c h
  pub in_order : numbers_rise (runs_of c h) ≡ true
