-- Histories in which controllers send what they planned, and participants take what they fetched.
use Rattle.std.specs.Prelude.{◌≡◌, true, List, [], ◌∷◌, ◌++◌}
use Rattle.std.specs.List.{list_any}
use Rattle.hx_cluster.specs.declared.description.Spec.{Spec}
use Rattle.hx_cluster.specs.declared.state.Message.{Message}
use Rattle.hx_cluster.specs.declared.state.Cluster.{Cluster}
use Rattle.hx_cluster.specs.declared.happenings.Event.{Event}
use Rattle.hx_cluster.specs.declared.happenings.Event.TheVariants as events
use Rattle.hx_cluster.specs.Steps.{opening}
use Rattle.hx_cluster.specs.Reads.{messages_for}
use Rattle.hx_cluster.specs.Messages.{has_id}
use Rattle.hx_cluster.specs.Events.{next, IsLegal}
use Rattle.hx_pass.specs.Plans.{plan}
use Rattle.hx_pass.specs.Turns.{Live, Mail, States, Ideals, Send, Post, is_first, is_due, is_of_epoch, turn_of, posted_of}

-- the messages that fetches showed
abbrev pub shown_by : Cluster → Event → List Message
shown_by c (events.Fetch i s n) = messages_for c s
shown_by c e = []

abbrev pub fetched_from : Cluster → List Event → List Message
fetched_from c [] = []
fetched_from c (e ∷ es) = shown_by c e ++ fetched_from (next c e) es

-- an event after others: a call of a controller is the next one of its turn, with the numbers of its begin; a dispatch has the
-- proposals of the plan of what the turn was shown, a post its rows; and a take is of a message that was fetched
abbrev pub IsProper : Spec → List Event → Event → Type 0
IsProper spec before (events.Live k pass) = is_due (turn_of spec k before) Live pass ≡ true
IsProper spec before (events.Mail k pass s) = is_due (turn_of spec k before) (Mail s) pass ≡ true
IsProper spec before (events.States k pass s) = is_due (turn_of spec k before) (States s) pass ≡ true
IsProper spec before (events.Ideals k pass) = is_due (turn_of spec k before) Ideals pass ≡ true
IsProper spec before (events.Dispatch k epoch pass proposals answer) =
    (is_due (turn_of spec k before) Send pass ≡ true)
    × (is_of_epoch (turn_of spec k before) epoch ≡ true)
    × (proposals ≡ (plan spec.models spec.rules (turn_of spec k before).view).proposals)
IsProper spec before (events.Post k epoch rows) =
    (is_first Post (turn_of spec k before).left ≡ true)
    × (is_of_epoch (turn_of spec k before) epoch ≡ true)
    × (rows ≡ posted_of (turn_of spec k before).view)
IsProper spec before (events.Take s id) = list_any (has_id s id) (fetched_from (opening spec) before) ≡ true
IsProper spec before _ = Unit {0}

-- each event is proper after those before it
abbrev pub IsProperAlong : Spec → List Event → List Event → Type 0
IsProperAlong spec before [] = Unit {0}
IsProperAlong spec before (e ∷ es) = IsProper spec before e × IsProperAlong spec (before ++ e ∷ []) es

abbrev pub IsLawful : Spec → List Event → Type 0
IsLawful spec h = IsLegal (opening spec) h × IsProperAlong spec [] h
