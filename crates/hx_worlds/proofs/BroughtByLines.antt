-- What lines of a script, and whole scripts, bring is what they add. So the history that a run's items tell is the one of its world.
use Rattle.std.proofs.Common.{◌≡◌, ℕ, ◌+◌, Bool, true, false, List, [], ◌∷◌, length, refl, subst, zero, suc}
use Rattle.std.specs.Prelude.{Option, None, Some, if◌then◌else◌}
use Rattle.hx_ids.specs.declared.InstanceId.{InstanceId}
use Rattle.hx_ids.specs.declared.ControllerId.{ControllerId}
use Rattle.hx_ids.specs.declared.MsgId.{MsgId}
use Rattle.hx_ids.specs.declared.ResourceId.{ResourceId}
use Rattle.hx_ids.specs.declared.StateId.{StateId}
use Rattle.hx_cluster.specs.declared.description.Spec.{Spec}
use Rattle.hx_cluster.specs.declared.state.Message.{Message}
use Rattle.hx_cluster.specs.declared.planning.Report.{Report}
use Rattle.hx_cluster.specs.declared.happenings.Admin.{Admin}
use Rattle.hx_cluster.specs.declared.happenings.Admin.TheVariants as steps
use Rattle.hx_cluster.specs.declared.happenings.Did.TheVariants as dids
use Rattle.hx_cluster.specs.declared.happenings.Event.TheVariants as events
use Rattle.hx_cluster.specs.declared.happenings.Mail.{Mail}
use Rattle.hx_cluster.specs.declared.happenings.StepFault.{StepFault}
use Rattle.hx_cluster.specs.Steps.{did_of}
use Rattle.hx_print.specs.declared.Note.TheVariants as notes
use Rattle.hx_replicas.specs.declared.DeliverFault.{DeliverFault}
use Rattle.hx_replicas.specs.Participants.{slot_of, makes, hand_out}
use Rattle.hx_script.specs.declared.What.{What}
use Rattle.hx_script.specs.declared.What.TheVariants as asks
use Rattle.hx_script.specs.declared.Line.{Line}
use Rattle.hx_script.specs.Asked.{step_asked}
use Rattle.hx_control.specs.declared.PassOutcome.{PassOutcome}
use Rattle.hx_control.specs.declared.PassOutcome.TheVariants as ends
use Rattle.hx_worlds.specs.World.{State, Job, participant_of, with_participant}
use Rattle.hx_worlds.specs.Items.{events_in}
use Rattle.hx_worlds.specs.declared.Settled.{Settled}
use Rattle.hx_worlds.specs.declared.Voice.{Voice}
use Rattle.hx_worlds.specs.declared.Voice.TheVariants.{Quiet, Loud}
use Rattle.hx_worlds.specs.Runs.{Run, Deed, GoesOn, Stops, items_of, state_of, done}
use Rattle.hx_worlds.specs.Brings.{Past, past_of, BringsIts}
use Rattle.hx_worlds.specs.Jobs
use Rattle.hx_worlds.specs.Settles
use Rattle.hx_worlds.specs.Scripts
use Rattle.hx_worlds.proofs.Brought.{brings_gives, brings_on, brings_then, brings_each, brings_happening, brings_event, brings_line}
use Rattle.hx_worlds.proofs.BroughtByTurns.{brings_note, brings_loud, brings_entries, brings_begin, brings_pass, brings_unasked, brings_word, brings_read}

-- what is done to participants and jobs alone leaves the past as it is
jobs_ended : (js : List Job) (x : State) → past_of (Jobs.end_jobs js x) ≡ past_of x
jobs_ended [] x = refl
jobs_ended (j ∷ js) x = jobs_ended js (Jobs.end_job j x)

mail_taken : (is_same : Bool) (i : InstanceId) (mail : Mail) (x : State)
    → past_of (Jobs.bagged mail.messages (if is_same then x else Jobs.adopt_in i mail.session x)) ≡ past_of x
mail_taken true i mail x = refl
mail_taken false i mail x = jobs_ended (Jobs.jobs_of i x) x

answer_used : (is : Bool) (x : State) → past_of (Jobs.if_answered is x) ≡ past_of x
answer_used true x = refl
answer_used false x = refl

-- an operation on a state with the same past
with_past : {A : Type 0} → (p q : Past) → p ≡ q → (r : Run A) → BringsIts p r → BringsIts q r
with_past p q same r b = subst (λ past. BringsIts past r) same b

-- nothing more than a state with the same past
done_with : (x y : State) → past_of y ≡ past_of x → BringsIts (past_of x) (done y)
done_with x y same = subst (λ past. BringsIts past (done y)) same (brings_gives y tt)

-- participants
mail_fetched : (i : InstanceId) (mail : Mail) (x : State) → BringsIts (past_of x) (Jobs.fetch_mail i mail x)
mail_fetched i mail x =
    brings_then (past_of x) _ _ (brings_happening (events.Fetch i mail.session (length mail.messages)) x) (λ y.
    done_with y (Jobs.fetched_as i mail y) (mail_taken (Jobs.same_session (participant_of y.world i).session mail.session) i mail y))

delivered : (v : Voice) (i : InstanceId) (m : Message) (f : Option DeliverFault) (x : State) → BringsIts (past_of x) (Jobs.delivered v i m f x)
delivered v i m (Some f) x = brings_note v _ x
delivered v i m None x = brings_loud v 1 _ _

from_bag : (v : Voice) (i : InstanceId) (m : Option Message) (x : State) → BringsIts (past_of x) (Jobs.deliver_from_bag v i m x)
from_bag v i None x = brings_note v _ x
from_bag v i (Some m) x = delivered v i m _ x

-- one of two operations
choice : {A : Type 0} → (p : Past) (b : Bool) (r s : Run A) → BringsIts p r → BringsIts p s → BringsIts p (if b then r else s)
choice p true r s br bs = br
choice p false r s br bs = bs

job_taken : (v : Voice) (i : InstanceId) (m : Message) (handler : Option ℕ) (x : State) → BringsIts (past_of x) (Jobs.take_job v i m handler x)
job_taken v i m handler x =
    choice (past_of x) _ _ _
    (brings_then (past_of x) _ _ (brings_event (events.Take m.session m.id) x) (λ y.
    done_with y (Jobs.ran i m handler y) (answer_used (Jobs.runs_handler m handler) y)))
    (brings_note v _ (Jobs.put_back i m handler x))

taken : (v : Voice) (i : InstanceId) (m : Option Message) (x : State) → BringsIts (past_of x) (Jobs.take_accepted v i m x)
taken v i None x = brings_note v _ x
taken v i (Some m) x =
    let is_faulted = Jobs.fails_to_make i m x in
    let made = makes (slot_of (participant_of x.world i) m.part) m in
    let out = with_participant i (hand_out (participant_of x.world i) m is_faulted) x in
    with_past _ (past_of x) (answer_used made out) _ (job_taken v i m (Jobs.handler_of i m is_faulted x) (Jobs.if_answered made out))

written : (v : Voice) (j : Option Job) (x : State) → BringsIts (past_of x) (Jobs.write_job v j x)
written v None x = brings_note v _ x
written v (Some j) x =
    choice (past_of x) _ _ _ (brings_note v _ x)
    (choice (past_of x) _ _ _
    (brings_then (past_of x) _ _ (brings_event (events.Write j.message.session j.message.id j.outcome) x) (λ y.
    brings_gives (Jobs.with_written j.instance j.message.id y) tt))
    (brings_note v notes.SessionEnded (Jobs.end_job j x)))

acked : (v : Voice) (j : Option Job) (x : State) → BringsIts (past_of x) (Jobs.ack_job v j x)
acked v None x = brings_note v _ x
acked v (Some j) x =
    choice (past_of x) _ _ _ (brings_note v _ x)
    (choice (past_of x) _ _ _
    (brings_then (past_of x) _ _ (brings_event (events.Ack j.message.session j.message.id) x) (λ y. brings_gives (Jobs.end_job j y) tt))
    (brings_note v notes.SessionEnded (Jobs.end_job j x)))

carried : (i : InstanceId) (id : MsgId) (x : State) → BringsIts (past_of x) (Jobs.carry i id x)
carried i id x = brings_then (past_of x) _ _ (written Quiet _ x) (λ y. acked Quiet _ y)

message_run : (i : InstanceId) (m : Message) (x : State) → BringsIts (past_of x) (Jobs.run_message i m x)
message_run i m x = brings_then (past_of x) _ _ (taken Quiet i _ x) (λ y. carried i m.id y)

pub brings_work : (i : InstanceId) (x : State) → BringsIts (past_of x) (Jobs.do_work i x)
brings_work i x =
    brings_then (past_of x) _ _ (brings_each (λ j y. Jobs.carry i j.message.id y) (λ j y. carried i j.message.id y) (Jobs.jobs_of i x) x) (λ y.
    brings_then (past_of y) _ _
    (brings_then (past_of y) _ _ (mail_fetched i _ y) (λ z. brings_each (Jobs.deliver Quiet i) (λ m u. delivered Quiet i m _ u) _ z)) (λ z.
    brings_each (Jobs.run_message i) (message_run i) _ z))

-- settles
round_ended : (n : ℕ) (o : Option PassOutcome) (f : State → Run Settled) → ((x : State) → BringsIts (past_of x) (f x)) → (x : State)
    → BringsIts (past_of x) (Settles.unless_settled n o f x)
round_ended n None f b x = brings_then (past_of x) _ _ (brings_each Jobs.do_work brings_work _ x) b
round_ended n (Some (ends.Sent sent)) f b x = brings_then (past_of x) _ _ (brings_each Jobs.do_work brings_work _ x) b
round_ended n (Some (ends.Waiting pending)) f b x = brings_then (past_of x) _ _ (brings_each Jobs.do_work brings_work _ x) b
round_ended n (Some (ends.Moved from to)) f b x = brings_then (past_of x) _ _ (brings_each Jobs.do_work brings_work _ x) b
round_ended n (Some (ends.Settled report)) f b x = brings_gives _ _

rounds_made : (m : ℕ) (k : ControllerId) (n : ℕ) (x : State) → BringsIts (past_of x) (Settles.rounds m k n x)
rounds_made zero k n x = brings_gives _ _
rounds_made (suc m) k n x =
    brings_on (past_of x) _ _ (brings_pass Quiet k x) (λ o y. round_ended (n + 1) o _ (λ z. rounds_made m k (n + 1) z) y)

settled : (k : Option ControllerId) (x : State) → BringsIts (past_of x) (Settles.settle_led k x)
settled None x = brings_gives _ _
settled (Some k) x = brings_on (past_of x) _ _ (rounds_made _ k 0 x) (λ s y. brings_gives _ _)

report_lines : (r : Option Report) (x : State) → BringsIts (past_of x) (Settles.say_report r x)
report_lines None x = brings_gives _ _
report_lines (Some report) x = brings_entries report.entries x

settle_told : (v : Voice) (k : Option ControllerId) (s : Option Settled) (x : State) → BringsIts (past_of x) (Settles.tell_settle v k s x)
settle_told v None s x = brings_note v _ x
settle_told v (Some k) None x = brings_note v _ x
settle_told v (Some k) (Some s) x = brings_then (past_of x) _ _ (brings_line 1 _ x) (λ y. report_lines s.report y)

pub brings_settle : (v : Voice) (x : State) → BringsIts (past_of x) (Settles.do_settle v x)
brings_settle v x = brings_on (past_of x) _ _ (settled _ x) (λ s y. settle_told v x.world.cluster.leader s y)

-- lines
stepped : (v : Voice) (step : Admin) (f : Option StepFault) (x : State) → BringsIts (past_of x) (Scripts.stepped v step f x)
stepped v step (Some f) x = brings_note v _ x
stepped v step None x = brings_happening (events.Admin step (did_of x.world.cluster step)) x

asked : (v : Voice) (step : Option Admin) (x : State) → BringsIts (past_of x) (Scripts.do_asked v step x)
asked v None x = brings_note v _ x
asked v (Some step) x = stepped v step _ x

died : (v : Voice) (i : InstanceId) (f : Option StepFault) (x : State) → BringsIts (past_of x) (Scripts.died v i f x)
died v i (Some f) x = brings_note v _ x
died v i None x =
    brings_then (past_of x) _ _ (brings_happening (events.Admin (steps.End i) dids.Done) x) (λ y.
    done_with y (Jobs.adopt_in i None y) (jobs_ended (Jobs.jobs_of i y) y))

pub brings_view : (x : State) → BringsIts (past_of x) (Scripts.do_view x)
brings_view x = brings_each _ (λ p y. brings_line _ _ y) _ x

routed : (v : Voice) (index : ℕ) (t : StateId) (r : Option ResourceId) (x : State) → BringsIts (past_of x) (Scripts.route_on v index t r x)
routed v index t None x = brings_note v _ x
routed v index t (Some r) x = brings_line _ _ x

what_done : (v : Voice) (what : What) (x : State) → BringsIts (past_of x) (Scripts.do_what v what x)
what_done v (asks.Die i) x = died v i _ x
what_done v (asks.Begin k) x = brings_unasked _ x (brings_begin v k x)
what_done v (asks.Read k kind) x = brings_read v k kind x
what_done v (asks.Send k) x = brings_word v k _ x
what_done v (asks.Post k) x = brings_word v k _ x
what_done v (asks.Pass k) x = brings_unasked _ x (brings_pass v k x)
what_done v (asks.Fetch i) x = mail_fetched i _ x
what_done v (asks.Deliver i id) x = from_bag v i _ x
what_done v (asks.Take i id) x = taken v i _ x
what_done v (asks.Write i id) x = written v _ x
what_done v (asks.Ack i id) x = acked v _ x
what_done v (asks.Work i) x = brings_work i x
what_done v asks.Settle x = brings_settle v x
what_done v asks.View x = brings_view x
what_done v (asks.Route name part state) x = routed v part state _ x
what_done v asks.Summary x = brings_line 1 _ x
what_done v what x = asked v (step_asked x.world.cluster what) x

pub brings_what_a_line_does : (l : Line) (x : State) → BringsIts (past_of x) (Scripts.do_line l x)
brings_what_a_line_does l x =
    brings_then (past_of x) _ _ (brings_happening (events.Line l.number) x) (λ y. what_done (Loud l.number) l.what y)

pub brings_script : (lines : List Line) (x : State) → BringsIts (past_of x) (Scripts.do_script lines x)
brings_script lines x = brings_then (past_of x) _ _ (brings_each Scripts.do_line brings_what_a_line_does lines x) (λ y. brings_view y)

-- the history of the items of a run is that of its world
same_history : (spec : Spec) (r : Deed) → BringsIts (past_of (Scripts.opening_state spec)) r → (state_of r).world.history ≡ events_in (items_of r)
same_history spec (GoesOn items x answer) b = b.all.history
same_history spec (Stops items x) b = b.all.history

pub prints_its_history : (spec : Spec) (lines : List Line) → (state_of (Scripts.sim_run spec lines)).world.history ≡ Scripts.sim_history spec lines
prints_its_history spec lines = same_history spec (Scripts.sim_run spec lines) (brings_script lines (Scripts.opening_state spec))
