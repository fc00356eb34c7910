-- The roll that a log's names need, kept from event to event.
use Rattle.std.specs.Prelude.{ℕ, ◌==◌, not, List, [], ◌∷◌, ◌++◌, filter, Option, None, Some}
use Rattle.hx_ids.specs.declared.InstanceId.{InstanceId}
use Rattle.hx_ids.specs.declared.SessionId.{SessionId}
use Rattle.hx_cluster.specs.declared.description.Spec.{Spec}
use Rattle.hx_cluster.specs.declared.happenings.Admin.{Admin}
use Rattle.hx_cluster.specs.declared.happenings.Admin.TheVariants as steps
use Rattle.hx_cluster.specs.declared.happenings.Did.{Did}
use Rattle.hx_cluster.specs.declared.happenings.Event.{Event}
use Rattle.hx_cluster.specs.declared.happenings.Event.TheVariants as events
use Rattle.hx_cluster.specs.Ends.{session_in}
use Rattle.hx_print.specs.declared.roll.Roll.{Roll}
use Rattle.hx_print.specs.Texts.{joined_by, ended_by_tick, event_text}

-- the live sessions but one, and but some
abbrev pub without : SessionId → List (SessionId × InstanceId) → List (SessionId × InstanceId)
without s live = filter (λ e. not (e.0.0 == s.0)) live

abbrev pub without_all : List SessionId → List (SessionId × InstanceId) → List (SessionId × InstanceId)
without_all [] live = live
without_all (s ∷ ss) live = without_all ss (without s live)

-- with the session that joined, without one that ended, and with one that beats as the last
abbrev pub joined_live : List (SessionId × InstanceId) → InstanceId → Option SessionId → List (SessionId × InstanceId)
joined_live live i None = live
joined_live live i (Some s) = live ++ (s, i) ∷ []

abbrev pub ended_live : List (SessionId × InstanceId) → Option SessionId → List (SessionId × InstanceId)
ended_live live None = live
ended_live live (Some s) = without s live

abbrev pub beaten_live : List (SessionId × InstanceId) → InstanceId → Option SessionId → List (SessionId × InstanceId)
beaten_live live i None = live
beaten_live live i (Some s) = without s live ++ (s, i) ∷ []

-- the roll after a step that was answered so
abbrev pub roll_after_step : Roll → Admin → Did → Roll
roll_after_step roll (steps.Join i) did = record roll { live = joined_live roll.live i (joined_by did) }
roll_after_step roll (steps.End i) did = record roll { live = ended_live roll.live (session_in roll.live i) }
roll_after_step roll (steps.Beat i) did = record roll { live = beaten_live roll.live i (session_in roll.live i) }
roll_after_step roll (steps.Tick n) did = record roll { live = without_all (ended_by_tick did) roll.live }
roll_after_step roll (steps.Add name model ideal) did = record roll { resources = roll.resources ++ name ∷ [] }
roll_after_step roll _ did = roll

-- the roll after an event
abbrev pub roll_after : Roll → Event → Roll
roll_after roll (events.Admin step did) = roll_after_step roll step did
roll_after roll _ = roll

-- the log of events in order, by the roll before them
abbrev pub rolled_text : Spec → Roll → List Event → List ℕ
rolled_text spec roll [] = []
rolled_text spec roll (e ∷ es) = event_text spec roll e ++ rolled_text spec (roll_after roll e) es
