-- A controller's turn, as a history tells it.
use Rattle.std.specs.Prelude.{Bool, true, false, ◌==◌, ◌&&◌, ◌||◌, nat_lt, List, [], ◌∷◌, ◌++◌, drop, map, unwrap_or, if◌then◌else◌}
use Rattle.hx_lists.specs.Lists.{sort_by}
use Rattle.hx_ids.specs.declared.ControllerId.{ControllerId}
use Rattle.hx_ids.specs.declared.SessionId.{SessionId}
use Rattle.hx_ids.specs.declared.InstanceId.{InstanceId}
use Rattle.hx_ids.specs.declared.PassNo.{PassNo}
use Rattle.hx_ids.specs.declared.Epoch.{Epoch}
use Rattle.hx_cluster.specs.declared.description.Spec.{Spec}
use Rattle.hx_cluster.specs.declared.planning.View.{View}
use Rattle.hx_cluster.specs.declared.state.Row.{Row}
use Rattle.hx_cluster.specs.declared.state.Cluster.{Cluster}
use Rattle.hx_cluster.specs.declared.happenings.Begun.{Begun}
use Rattle.hx_cluster.specs.declared.happenings.Seen.{Seen}
use Rattle.hx_cluster.specs.declared.happenings.Event.{Event}
use Rattle.hx_cluster.specs.declared.happenings.Event.TheVariants as events
use Rattle.hx_cluster.specs.Ends.{part_before, part_eq, instance_in}
use Rattle.hx_cluster.specs.Steps.{opening}
use Rattle.hx_cluster.specs.Reads.{live_shown, mail_shown, states_shown, ideals_shown, nothing_shown}
use Rattle.hx_cluster.specs.Events.{next}

-- the calls of a turn that has begun
pub data Call : Type 0 where
  Live : Call
  Mail : SessionId → Call
  States : SessionId → Call
  Ideals : Call
  Send : Call
  Post : Call

-- a turn: the calls that are left, as far as they are known, what its begin answered, and what its reads showed
pub record Turn : Type 0 where
  pub left : List Call
  pub begun : Begun
  pub view : View

-- no turn is under way
abbrev pub idle_turn : Turn
idle_turn = record {
  left = [];
  begun = record { epoch = record { 0 = 0 }; pass = record { 0 = 0 }; change = 0 };
  view = nothing_shown;
}

abbrev pub begun_turn : Begun → Turn
begun_turn begun = record { left = Live ∷ []; begun = begun; view = nothing_shown }

-- whether calls are the same
abbrev pub same_call : Call → Call → Bool
same_call Live Live = true
same_call (Mail s) (Mail t) = s.0 == t.0
same_call (States s) (States t) = s.0 == t.0
same_call Ideals Ideals = true
same_call Send Send = true
same_call Post Post = true
same_call a b = false

abbrev pub is_first : Call → List Call → Bool
is_first call [] = false
is_first call (first ∷ rest) = same_call first call

-- a call is the next one of a turn, and has the numbers of its begin
abbrev pub is_due : Turn → Call → PassNo → Bool
is_due t call pass = is_first call t.left && (pass.0 == t.begun.pass.0)

abbrev pub is_of_epoch : Turn → Epoch → Bool
is_of_epoch t epoch = epoch.0 == t.begun.epoch.0

-- which calls there are after live is known once it showed the sessions
abbrev pub calls_after_live : List (SessionId × InstanceId) → List Call
calls_after_live live = map (λ e. Mail e.0) live ++ map (λ e. States e.0) live ++ Ideals ∷ Send ∷ Post ∷ []

abbrev pub with_live : Cluster → Turn → Turn
with_live c t = record t { left = calls_after_live (live_shown c); view = record t.view { live = live_shown c } }

-- a turn goes on with its next call, and has been shown more
abbrev pub gone_on : Turn → View → Turn
gone_on t view = record t { left = drop 1 t.left; view = view }

-- a call that isn't due leaves the turn idle
abbrev pub if_due : Bool → Turn → Turn
if_due due t = if due then t else idle_turn

-- a controller's turn after an event. Only its own begin and calls change it, and the post ends it
abbrev pub when_own : ControllerId → ControllerId → Turn → Turn → Turn
when_own k j t after = if j.0 == k.0 then after else t

abbrev pub turn_after : Cluster → ControllerId → Turn → Event → Turn
turn_after c k t (events.Begin j begun) = when_own k j t (begun_turn begun)
turn_after c k t (events.Live j pass) = when_own k j t (if_due (is_due t Live pass) (with_live c t))
turn_after c k t (events.Mail j pass s) =
    when_own k j t (if_due (is_due t (Mail s) pass) (gone_on t (record t.view { mail = t.view.mail ++ mail_shown c s })))
turn_after c k t (events.States j pass s) =
    when_own k j t (if_due (is_due t (States s) pass) (gone_on t (record t.view { rows = t.view.rows ++ states_shown c s })))
turn_after c k t (events.Ideals j pass) =
    when_own k j t (if_due (is_due t Ideals pass) (gone_on t (record t.view { ideals = ideals_shown c })))
turn_after c k t (events.Dispatch j epoch pass proposals answer) =
    when_own k j t (if_due (is_due t Send pass && is_of_epoch t epoch) (gone_on t t.view))
turn_after c k t (events.Post j epoch rows) = when_own k j t idle_turn
turn_after c k t _ = t

abbrev pub turn_from : Cluster → ControllerId → Turn → List Event → Turn
turn_from c k t [] = t
turn_from c k t (e ∷ es) = turn_from (next c e) k (turn_after c k t e) es

-- the turn in which a history leaves a controller, and what its reads since its last begin showed
abbrev pub turn_of : Spec → ControllerId → List Event → Turn
turn_of spec k h = turn_from (opening spec) k idle_turn h

abbrev pub view_of : Spec → ControllerId → List Event → View
view_of spec k h = (turn_of spec k h).view

-- what a turn posts: the rows that it was shown, with their instances, by part, then instance
abbrev pub seen_before : Seen → Seen → Bool
seen_before a b = part_before a.part b.part || (part_eq a.part b.part && nat_lt a.instance.0 b.instance.0)

abbrev pub seen_of : View → Row → Seen
seen_of view r = record { instance = unwrap_or (instance_in view.live r.session) (record { 0 = 0 }); part = r.part; state = r.state }

abbrev pub posted_of : View → List Seen
posted_of view = sort_by seen_before (map (seen_of view) view.rows)
