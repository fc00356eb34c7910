-- The definitions computed: the whole output of a small script, and lines of every kind.
use Rattle.std.proofs.Common.{◌≡◌, ℕ, false, List, [], ◌∷◌, ◌++◌, None, Some, codes, refl}
use Rattle.std.specs.Fmt.{digits}
use Rattle.hx_ids.specs.declared.InstanceId.{InstanceId}
use Rattle.hx_ids.specs.declared.SessionId.{SessionId}
use Rattle.hx_ids.specs.Words.{instance, controller, session, message, epoch, pass, state, part}
use Rattle.hx_model.specs.Builtin.{one_leads, on_and_off}
use Rattle.hx_ideal.specs.declared.Mode.TheVariants as modes
use Rattle.hx_ideal.specs.declared.IdealFault.TheVariants as ideal_faults
use Rattle.hx_ideal.specs.IdealState.{IdealState}
use Rattle.hx_cluster.specs.declared.description.Spec.{Spec}
use Rattle.hx_cluster.specs.declared.state.Cluster.{Cluster}
use Rattle.hx_cluster.specs.declared.planning.Full.{Full}
use Rattle.hx_cluster.specs.declared.happenings.Admin.{Admin}
use Rattle.hx_cluster.specs.declared.happenings.Admin.TheVariants as steps
use Rattle.hx_cluster.specs.declared.happenings.Did.TheVariants as dids
use Rattle.hx_cluster.specs.declared.happenings.StepFault.TheVariants as faults
use Rattle.hx_cluster.specs.declared.happenings.Proposal.{Proposal}
use Rattle.hx_cluster.specs.declared.happenings.Placed.TheVariants as placings
use Rattle.hx_cluster.specs.declared.happenings.Outcome.TheVariants as outcomes
use Rattle.hx_cluster.specs.declared.happenings.Event.{Event}
use Rattle.hx_cluster.specs.declared.happenings.Event.TheVariants as events
use Rattle.hx_cluster.specs.Steps.{opening, did_of}
use Rattle.hx_cluster.specs.Events.{begun_of, dispatched_of, next, replay}
use Rattle.hx_print.specs.declared.Word.TheVariants as turn_words
use Rattle.hx_print.specs.declared.Note.{Note}
use Rattle.hx_print.specs.declared.Note.TheVariants as notes
use Rattle.hx_print.specs.Texts.{entry_text, log_text, note_text, sent_text, waiting_text, moved_text, settled_text, settle_text, accept_text, failed_text, full_text, view_text, route_text, summary_text, history_full_text, placed_lines, names_of}

abbrev bare_semi : ℕ → IdealState
bare_semi parts = record { replicas = 3; parts = parts; mode = modes.Semi ([] ∷ []) }

-- two controllers, three instances, and a resource of two partitions, of which two replicas of each are wanted at ONLINE
abbrev pub demo : Spec
demo = record {
  instances = codes "n1" ∷ codes "n2" ∷ codes "n3" ∷ [];
  states = codes "ERROR" ∷ codes "DROPPED" ∷ codes "MASTER" ∷ codes "SLAVE" ∷ codes "OFFLINE" ∷ codes "ONLINE" ∷ codes "LEADER" ∷ codes "STANDBY" ∷ [];
  resource_names = codes "db" ∷ [];
  model_names = codes "MasterSlave" ∷ codes "OnlineOffline" ∷ codes "LeaderStandby" ∷ [];
  models = one_leads (state 2) (state 3) (state 4) ∷ on_and_off (state 5) (state 4) ∷ one_leads (state 6) (state 7) (state 4) ∷ [];
  controllers = 2;
  timeout = 30;
  rules = [];
  resources = (record {
    name = 0;
    model = record { 0 = 1 };
    ideal = record { replicas = 2; parts = 2; mode = modes.Semi ((instance 0 ∷ instance 1 ∷ instance 2 ∷ []) ∷ (instance 1 ∷ instance 2 ∷ instance 0 ∷ []) ∷ []) };
    dropped = false;
  }) ∷ [];
  failures = [];
}

-- a join, a pass that sends two messages, and their runs
abbrev proposals : List Proposal
proposals =
    (record { session = session 1; part = part 0 0; from = state 4; to = state 5 })
    ∷ (record { session = session 1; part = part 0 1; from = state 4; to = state 5 }) ∷ []

abbrev before_pass : List Event
before_pass =
    events.Line 1 ∷ events.Admin (steps.Join (instance 0)) (dids.Joined (session 1))
    ∷ events.Line 2 ∷ events.Admin (steps.Lead (controller 0)) (dids.Leads (epoch 1))
    ∷ events.Line 3 ∷ []

abbrev until_send : List Event
until_send =
    before_pass
    ++ events.Begin (controller 0) (begun_of (replay (opening demo) before_pass) (controller 0))
    ∷ events.Live (controller 0) (pass 1)
    ∷ events.Mail (controller 0) (pass 1) (session 1)
    ∷ events.States (controller 0) (pass 1) (session 1)
    ∷ events.Ideals (controller 0) (pass 1) ∷ []

abbrev after_send : List Event
after_send =
    events.Dispatch (controller 0) (epoch 1) (pass 1) proposals (dispatched_of (replay (opening demo) until_send) (controller 0) proposals)
    ∷ events.Post (controller 0) (epoch 1) []
    ∷ events.Line 4
    ∷ events.Fetch (instance 0) (Some (session 1)) 2
    ∷ events.Take (session 1) (message 1) ∷ events.Write (session 1) (message 1) outcomes.Ok ∷ events.Ack (session 1) (message 1)
    ∷ events.Take (session 1) (message 2) ∷ events.Write (session 1) (message 2) outcomes.Ok ∷ events.Ack (session 1) (message 2)
    ∷ events.Line 5 ∷ []

pass_and_work : log_text demo (opening demo) (until_send ++ after_send)
    ≡ codes "line 1\njoin n1 s1\nline 2\nlead c1 e1\nline 3\nbegin c1 e1 p1\nlive c1 p1\nmail c1 p1 s1\nstates c1 p1 s1\nideals c1 p1\nsend c1 e1 p1\n  sent m1 s1 db#0/0 OFFLINE>ONLINE\n  sent m2 s1 db#0/1 OFFLINE>ONLINE\npost c1 e1 0\nline 4\nfetch n1 s1 2\ntake s1 m1\nwrite s1 m1 ok\nack s1 m1\ntake s1 m2\nwrite s1 m2 ok\nack s1 m2\nline 5\n"
unfolding digits
pass_and_work = refl

abbrev worked : Cluster
worked = replay (opening demo) (until_send ++ after_send)

worked_view : view_text demo worked ≡ codes "= db#0/0 n1:ONLINE\n= db#0/1 n1:ONLINE\n"
unfolding digits
worked_view = refl

opening_view : view_text demo (opening demo) ≡ codes "= db#0/0 -\n= db#0/1 -\n"
unfolding digits
opening_view = refl

-- the partitions of a dropped resource stand in the view as long as somebody has a row of them
abbrev after_step : Cluster → Admin → Cluster
after_step c step = next c (events.Admin step (did_of c step))

dropped_view : view_text demo (after_step worked (steps.Drop (record { 0 = 0 }))) ≡ codes "= db#0/0 n1:ONLINE\n= db#0/1 n1:ONLINE\n"
unfolding digits
dropped_view = refl

gone_view : view_text demo (after_step (opening demo) (steps.Drop (record { 0 = 0 }))) ≡ []
gone_view = refl

-- the other steps
abbrev step_line : Cluster → Admin → List ℕ
step_line c step = entry_text demo c (events.Admin step (did_of c step))

steps_of_instances : step_line worked (steps.Beat (instance 0)) ++ step_line worked (steps.Reset (instance 0) (part 0 1)) ++ step_line worked (steps.Tick 30) ++ step_line worked (steps.Tick 29)
    ++ step_line worked (steps.Drain (instance 1)) ++ step_line worked (steps.Undrain (instance 1)) ++ step_line worked (steps.End (instance 0))
    ≡ codes "beat n1 s1\nreset n1 s1 db#0/1\ntick 30\n  end n1 s1\ntick 29\ndrain n2\nundrain n2\nend n1 s1\n"
unfolding digits
steps_of_instances = refl

steps_of_resources : step_line worked (steps.Add 0 (record { 0 = 0 }) (bare_semi 8)) ++ step_line worked (steps.Drop (record { 0 = 0 }))
    ++ step_line worked (steps.SetList (part 0 1) (instance 0 ∷ instance 1 ∷ [])) ++ step_line worked (steps.SetList (part 0 1) [])
    ++ step_line worked (steps.SetMap (part 0 1) ((instance 0, state 2) ∷ (instance 1, state 3) ∷ []))
    ++ step_line worked (steps.Stop (controller 0)) ++ step_line worked (steps.Start (controller 1))
    ≡ codes "add db#1 MasterSlave 3 8 SEMI_AUTO\ndrop db#0\nlist db#0/1 n1 n2\nlist db#0/1\nmap db#0/1 n1=MASTER n2=SLAVE\nstop c1\nstart c2\n"
unfolding digits
steps_of_resources = refl

without_session : entry_text demo worked (events.Fetch (instance 1) None 0) ++ entry_text demo worked (events.Write (session 1) (message 1) outcomes.Failed) ≡ codes "fetch n2 - 0\nwrite s1 m1 failed\n"
unfolding digits
without_session = refl

-- every answer to a proposal
abbrev proposal : Proposal
proposal = record { session = session 1; part = part 0 0; from = state 4; to = state 3 }

answers : placed_lines demo (names_of demo.resources) (proposal ∷ proposal ∷ proposal ∷ proposal ∷ proposal ∷ proposal ∷ proposal ∷ proposal ∷ proposal ∷ [])
    (placings.Sent (message 1) ∷ placings.Ended ∷ placings.ResourceDropped ∷ placings.Busy (message 3) ∷ placings.WrongFrom (Some (state 3)) ∷ placings.WrongFrom None
    ∷ placings.Illegal ∷ placings.OverBound 1 1 ∷ placings.OverThrottle 0 4 4 ∷ [])
    ≡ codes "  sent m1 s1 db#0/0 OFFLINE>SLAVE\n  ended s1 db#0/0 OFFLINE>SLAVE\n  dropped s1 db#0/0 OFFLINE>SLAVE\n  busy m3 s1 db#0/0 OFFLINE>SLAVE\n  from SLAVE s1 db#0/0 OFFLINE>SLAVE\n  from - s1 db#0/0 OFFLINE>SLAVE\n  illegal s1 db#0/0 OFFLINE>SLAVE\n  bound 1 of 1 s1 db#0/0 OFFLINE>SLAVE\n  throttle 0 4 of 4 s1 db#0/0 OFFLINE>SLAVE\n"
unfolding digits
answers = refl

-- notes
abbrev notes_text : List Note → List ℕ
notes_text [] = []
notes_text (note ∷ more) = note_text demo 7 note ++ notes_text more

refused_steps : notes_text (notes.Step (faults.AlreadyLive (session 1)) ∷ notes.Step faults.NotLive ∷ notes.Step faults.AlreadySo ∷ notes.Step faults.ClockEnd
    ∷ notes.Step (faults.NameInUse (record { 0 = 0 })) ∷ notes.Step faults.TooMany ∷ notes.Step faults.AlreadyDropped ∷ notes.Step faults.ResourceDropped
    ∷ notes.Step faults.WrongMode ∷ notes.Step (faults.NoPart 8) ∷ notes.Step (faults.Ideal (ideal_faults.TwiceInList 1 2)) ∷ notes.Step (faults.Ideal (ideal_faults.UnknownState 1 2))
    ∷ notes.Step (faults.NotError (Some (state 3))) ∷ notes.Step (faults.NotError None) ∷ notes.Step faults.AlreadyAsked
    ∷ notes.Step (faults.LedBy (controller 0) (epoch 1)) ∷ notes.Step faults.ControllerDown ∷ notes.Step faults.OutOfMemory ∷ [])
    ≡ codes "! 7 already-live s1\n! 7 not-live\n! 7 already-so\n! 7 clock-end\n! 7 name-in-use 0\n! 7 too-many\n! 7 already-dropped\n! 7 resource-dropped\n! 7 wrong-mode\n! 7 no-part 8\n! 7 twice-in-list 2\n! 7 unknown-state 2\n! 7 not-error SLAVE\n! 7 not-error -\n! 7 already-asked\n! 7 led-by c1 e1\n! 7 controller-down\n"
unfolding digits
refused_steps = refl

other_notes : notes_text (notes.NoResource ∷ notes.NotLeader (Some (controller 1)) ∷ notes.NotLeader None ∷ notes.NoLeader ∷ notes.OutOfTurn turn_words.Ideals
    ∷ notes.Fenced (epoch 2) ∷ notes.NoMessage ∷ notes.OtherSession (Some (session 2)) ∷ notes.OtherSession None ∷ notes.Running (message 1) ∷ notes.Repeat (message 1)
    ∷ notes.WrongFrom (state 3) ∷ notes.NoJob ∷ notes.SessionEnded ∷ [])
    ≡ codes "! 7 no-resource\n! 7 not-leader c2\n! 7 not-leader -\n! 7 no-leader\n! 7 out-of-turn ideals\n! 7 fenced 2\n! 7 no-message\n! 7 other-session s2\n! 7 other-session -\n! 7 running m1\n! 7 repeat m1\n! 7 wrong-from SLAVE\n! 7 no-job\n! 7 session-ended\n"
unfolding digits
other_notes = refl

-- outcomes, and what stands in the way of a settled cluster
outcome_lines : sent_text (controller 0) 2 ++ waiting_text (controller 0) 1 ++ moved_text (controller 0) 14 15 ++ settled_text (controller 0) ++ settle_text (controller 0) 3
    ++ accept_text demo (instance 0) (message 4) ++ failed_text demo demo.resources (instance 0) (part 0 0)
    ≡ codes "? c1 sent 2\n? c1 waiting 1\n? c1 moved 14 15\n? c1 settled\n? settle c1 3\n? n1 accept m4\n? failed n1 db#0/0\n"
unfolding digits
outcome_lines = refl

abbrev full : Full
full = record {
  candidate = record { session = session 1; instance = instance 0; part = part 0 0; from = state 2; to = state 3; place = 1 };
  count = 2;
  bound = 2;
  holders = session 3 ∷ session 2 ∷ [];
}

abbrev shown : List (SessionId × InstanceId)
shown = (session 1, instance 0) ∷ (session 2, instance 1) ∷ (session 3, instance 2) ∷ []

full_line : full_text demo demo.resources shown full ≡ codes "? full n1 db#0/0 MASTER>SLAVE 2 of 2 n2 n3\n"
unfolding digits
full_line = refl

other_lines : route_text demo demo.resources (part 0 1) (state 5) (instance 0 ∷ instance 2 ∷ []) ++ route_text demo demo.resources (part 0 1) (state 5) []
    ++ summary_text 4416 4410 6 12 0 ++ history_full_text 3999999
    ≡ codes "= route db#0/1 ONLINE n1 n3\n= route db#0/1 ONLINE -\n= summary sent 4416 ok 4410 failed 6 sessions 12 ended 0\nhistory full 3999999\n"
unfolding digits
other_lines = refl
