-- What the code of the judge says of its steps.
use Rattle.std.specs.Prelude.{◌≡◌, ℕ, ◌^◌, ◌≤◌, Bool, true, false, not, ◌==◌, ◌&&◌, List, ◌++◌, length, Option, None, Some, Result, Ok, Err, if◌then◌else◌, is_none, is_some}
use Rattle.std.specs.List.{list_all}
use Rattle.std.specs.Cmp.Lexicographic.{pointwise}
use Rattle.std.specs.Option.{option_eq}
use Rattle.hx_ids.specs.declared.ControllerId.{ControllerId}
use Rattle.hx_ids.specs.declared.PassNo.{PassNo}
use Rattle.hx_ids.specs.declared.InstanceId.{InstanceId}
use Rattle.hx_ids.specs.declared.SessionId.{SessionId}
use Rattle.hx_ids.specs.declared.Epoch.{Epoch}
use Rattle.hx_ideal.specs.IdealState.{IdealState}
use Rattle.hx_cluster.specs.declared.description.Spec.{Spec}
use Rattle.hx_cluster.specs.declared.state.Cluster.{Cluster}
use Rattle.hx_cluster.specs.declared.happenings.Admin.{Admin}
use Rattle.hx_cluster.specs.declared.happenings.Did.{Did}
use Rattle.hx_cluster.specs.declared.happenings.Did.TheVariants as dids
use Rattle.hx_cluster.specs.declared.happenings.Proposal.{Proposal}
use Rattle.hx_cluster.specs.declared.happenings.Seen.{Seen}
use Rattle.hx_cluster.specs.declared.happenings.Event.{Event}
use Rattle.hx_cluster.specs.declared.happenings.Event.TheVariants as events
use Rattle.hx_cluster.specs.Steps.{opening, has_instance, has_controller, session_of, refusal_of, did_of, is_in_range, is_bare}
use Rattle.hx_cluster.specs.Reads.{messages_for, mail_shown, states_shown, ideals_shown}
use Rattle.hx_cluster.specs.Events.{replay, is_postable, is_epoch, is_pass, IsLegal}
use Rattle.hx_cluster.specs.Weight.{weight_of_all}
use Rattle.hx_cluster.specs.Valid.{IsValid}
use Rattle.hx_gen.specs.Modelled.{has_models}
use Rattle.hx_pass.specs.Plans.{plan}
use Rattle.hx_pass.specs.Turns as turns
use Rattle.hx_script.specs.declared.log.LogEntry.{LogEntry}
use Rattle.hx_script.specs.declared.log.LogEntry.TheVariants as logs
use Rattle.hx_script.specs.declared.log.LogMove.{LogMove}
use Rattle.hx_script.specs.Modes.{mode_numbered}
use Rattle.hx_script.specs.NewIdeals.{bare_ideal}
use Rattle.hx_check.specs.declared.Cause.{Cause}
use Rattle.hx_check.specs.declared.Cause.TheVariants as causes
use Rattle.hx_check.specs.declared.turns.Read.{Read}
use Rattle.hx_check.specs.declared.turns.Read.TheVariants as reads
use Rattle.hx_check.specs.declared.turns.Call.{Call}
use Rattle.hx_check.specs.declared.turns.Call.TheVariants as calls
use Rattle.hx_check.specs.declared.answers.Told.{Told}
use Rattle.hx_check.specs.declared.answers.Told.TheVariants as tolds
use Rattle.hx_check.specs.Standing.{Standing, with_mark, stood_after}
use Rattle.hx_check.specs.Answers.{same_session, is_move, are_answers}
use Rattle.hx_check.specs.Judge.{same_proposal, judged_answer}

-- a call of a turn, as the definition of turns has it
abbrev pub read_told : Read → turns.Call
read_told reads.Live = turns.Live
read_told (reads.Mail s) = turns.Mail s
read_told (reads.States s) = turns.States s
read_told reads.Ideals = turns.Ideals

abbrev pub call_told : Call → turns.Call
call_told (calls.Read read) = read_told read
call_told calls.Send = turns.Send
call_told calls.Post = turns.Post

-- the event of a controller's read, and the turn after it
abbrev pub read_event : ControllerId → PassNo → Read → Event
read_event k pass reads.Live = events.Live k pass
read_event k pass (reads.Mail s) = events.Mail k pass s
read_event k pass (reads.States s) = events.States k pass s
read_event k pass reads.Ideals = events.Ideals k pass

abbrev pub read_on : Cluster → turns.Turn → Read → turns.Turn
read_on c t reads.Live = turns.with_live c t
read_on c t (reads.Mail s) = turns.gone_on t (record t.view { mail = t.view.mail ++ mail_shown c s })
read_on c t (reads.States s) = turns.gone_on t (record t.view { rows = t.view.rows ++ states_shown c s })
read_on c t reads.Ideals = turns.gone_on t (record t.view { ideals = ideals_shown c })

-- a turn behind its send
abbrev pub sent_on : turns.Turn → turns.Turn
sent_on t = turns.gone_on t t.view

-- whether a step answers what a log tells
abbrev pub is_told : Told → Did → Bool
is_told (tolds.Agrees agrees) did = agrees
is_told (tolds.Session s) (dids.Joined t) = s.0 == t.0
is_told (tolds.Resource r) (dids.Added q) = r.0 == q.0
is_told (tolds.Epoch e) (dids.Leads f) = e.0 == f.0
is_told _ _ = false

-- the ideal state of a resource that an entry adds, if the entry tells a mode and such a resource may be added
abbrev pub IsBareIdeal : ℕ → ℕ → ℕ → Option IdealState → Type 0
IsBareIdeal replicas parts mode None = (is_some (mode_numbered mode) && is_bare (bare_ideal replicas parts mode)) ≡ false
IsBareIdeal replicas parts mode (Some ideal) = (is_some (mode_numbered mode) ≡ true) × (ideal ≡ bare_ideal replicas parts mode)

-- what a step in range answers that nothing refuses
abbrev pub answer_of : Cluster → Admin → Option Did
answer_of c step = if is_in_range c step && is_none (refusal_of c step) then Some (did_of c step) else None

-- something happens exactly where it may; and else nothing is said of what is left, or all is as it was
abbrev pub IsMadeWhere : {X : Type 0} → Bool → Bool → X → X → Type 0
IsMadeWhere may made after new = (made ≡ may) × (made ≡ true → new ≡ after)

abbrev pub IsMadeIf : {X : Type 0} → Bool → Bool → X → X → X → Type 0
IsMadeIf may made old after new = (made ≡ may) × (new ≡ (if made then after else old))

-- what is at fault with a take
abbrev pub taken_as : Bool → Bool → Option Cause
taken_as made shown = if made then (if shown then None else Some causes.Fetch) else Some causes.Step

-- the most that a history weighs
abbrev pub most_weight : ℕ
most_weight = 2 ^ 40

-- a legal history from the opening of a valid description, which weighs no more than so much, leads to the cluster
pub record IsLedTo (c : Cluster) (weight : ℕ) : Type 0 where
  pub spec : Spec
  pub history : List Event
  pub valid : IsValid spec
  pub legal : IsLegal (opening spec) history
  pub replays : replay (opening spec) history ≡ c
  pub weighs : weight_of_all history ≤ weight
  pub within : weight ≤ most_weight

-- one turn for each controller, which was shown resources of the models alone
pub record AreTurns (c : Cluster) (ts : List turns.Turn) : Type 0 where
  pub each : length ts ≡ length c.controllers
  pub modelled : list_all (λ t. has_models c.models t.view) ts ≡ true

-- the marks once a session was fetched, or none was there
abbrev pub marked : List ℕ → Option SessionId → ℕ → List ℕ
marked marks None next = marks
marked marks (Some s) next = with_mark marks s.0 next

-- whether a fetch has the session and so many messages. By the session that stands, which is that one
abbrev pub may_fetch : Cluster → InstanceId → Option SessionId → ℕ → Bool
may_fetch c i s n = has_instance c i && option_eq same_session (session_of c i) s && (length (messages_for c (session_of c i)) == n)

-- whether a controller may post so many rows
abbrev pub may_post : Cluster → ControllerId → Epoch → List Seen → ℕ → Bool
may_post c k epoch rows n = has_controller c k && is_epoch c epoch && (length rows == n) && list_all (is_postable c) rows

-- whether a controller may make a dispatch, and whether the cluster answers it as a log tells
abbrev pub may_place : Cluster → ControllerId → Epoch → PassNo → List LogMove → Bool
may_place c k epoch pass moves = list_all (is_move c) moves && is_epoch c epoch && is_pass c k pass

abbrev pub is_placed : Cluster → ControllerId → Epoch → PassNo → List LogMove → Bool
is_placed c k epoch pass moves = may_place c k epoch pass moves && are_answers c k moves

-- what is at fault with a send that the cluster answers so
abbrev pub sent_as : Spec → turns.Turn → Epoch → PassNo → List Proposal → Option Cause
sent_as spec t epoch pass proposals =
    if not (turns.is_due t turns.Send pass && turns.is_of_epoch t epoch) then Some causes.Order
    else if not (pointwise same_proposal proposals (plan spec.models spec.rules t.view).proposals) then Some causes.Plan
    else None

-- the judge names the cause, or goes on to the standing behind the event
abbrev pub IsJudgedAs : Standing → Result Event Cause → Option Cause → Standing → Type 0
IsJudgedAs old (Ok e) cause new = (cause ≡ None) × (new ≡ stood_after old e)
IsJudgedAs old (Err fault) cause new = cause ≡ Some fault

-- the same of what the cluster answers, whatever the description
abbrev pub IsAnsweredAs : Standing → Option Event → Option Cause → Standing → Type 0
IsAnsweredAs old answer cause new = (spec : Spec) → IsJudgedAs old (judged_answer spec old answer) cause new

-- an entry of a step but a tick
abbrev pub tells_step : LogEntry → Bool
tells_step (logs.Line n) = false
tells_step (logs.Tick n ended) = false
tells_step (logs.Begin k epoch pass) = false
tells_step (logs.Live k pass) = false
tells_step (logs.Mail k pass s) = false
tells_step (logs.States k pass s) = false
tells_step (logs.Ideals k pass) = false
tells_step (logs.Dispatch k epoch pass moves) = false
tells_step (logs.Post k epoch n) = false
tells_step (logs.Fetch i s n) = false
tells_step (logs.Take s id) = false
tells_step (logs.Write s id outcome) = false
tells_step (logs.Ack s id) = false
tells_step _ = true
