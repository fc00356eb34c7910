-- What a script's words do in a world keeps what holds of it, where their steps do: those of controllers, of participants and of the cluster.
use Rattle.std.proofs.Common.{◌≡◌, ℕ, zero, suc, ◌+◌, Bool, true, false, List, [], ◌∷◌, map, length, Option, None, Some, refl}
use Rattle.std.specs.Prelude.{if◌then◌else◌}
use Rattle.std.specs.List.{list_all}
use Rattle.hx_ids.specs.declared.ControllerId.{ControllerId}
use Rattle.hx_ids.specs.declared.InstanceId.{InstanceId}
use Rattle.hx_ids.specs.declared.MsgId.{MsgId}
use Rattle.hx_ids.specs.declared.ResourceId.{ResourceId}
use Rattle.hx_ids.specs.declared.StateId.{StateId}
use Rattle.hx_cluster.specs.declared.planning.Entry.{Entry}
use Rattle.hx_cluster.specs.declared.planning.Plan.{Plan}
use Rattle.hx_cluster.specs.declared.planning.Report.{Report}
use Rattle.hx_cluster.specs.declared.planning.Target.{Target}
use Rattle.hx_cluster.specs.declared.planning.Finding.{Finding}
use Rattle.hx_cluster.specs.declared.planning.Finding.TheVariants as findings
use Rattle.hx_cluster.specs.declared.description.Spec.{Spec}
use Rattle.hx_cluster.specs.declared.state.Message.{Message}
use Rattle.hx_cluster.specs.declared.happenings.Admin.{Admin}
use Rattle.hx_cluster.specs.declared.happenings.Admin.TheVariants as steps
use Rattle.hx_cluster.specs.declared.happenings.Did.TheVariants as dids
use Rattle.hx_cluster.specs.declared.happenings.Event.{Event}
use Rattle.hx_cluster.specs.declared.happenings.Event.TheVariants as events
use Rattle.hx_cluster.specs.declared.happenings.StepFault.{StepFault}
use Rattle.hx_cluster.specs.Reads.{live_shown, fetched}
use Rattle.hx_cluster.specs.Steps.{did_of, is_in_range, refusal_of}
use Rattle.hx_print.specs.declared.Note.{Note}
use Rattle.hx_print.specs.declared.Note.TheVariants as notes
use Rattle.hx_print.specs.Texts.{view_line, view_of_part, viewed_parts}
use Rattle.hx_script.specs.declared.ReadKind.{ReadKind}
use Rattle.hx_script.specs.declared.ReadKind.TheVariants as kinds
use Rattle.hx_script.specs.declared.What.{What}
use Rattle.hx_script.specs.declared.What.TheVariants as asks
use Rattle.hx_script.specs.Asked.{step_asked}
use Rattle.hx_script.specs.Ranges as Ranges
use Rattle.hx_pass.specs.Turns.{Call, Live, Mail, States, Ideals, Send, Post}
use Rattle.hx_control.specs.declared.PassOutcome.{PassOutcome}
use Rattle.hx_control.specs.declared.PassOutcome.TheVariants as ends
use Rattle.hx_control.specs.declared.ControlFault.{ControlFault}
use Rattle.hx_control.specs.declared.ControlFault.TheVariants as faults
use Rattle.hx_worlds.specs.World.{State, Job, controller_of}
use Rattle.hx_worlds.specs.declared.Settled.{Settled}
use Rattle.hx_worlds.specs.declared.Voice.{Voice}
use Rattle.hx_worlds.specs.declared.Voice.TheVariants.{Loud, Quiet}
use Rattle.hx_worlds.specs.Runs.{Run, Deed, done, gives, and_then, happened, make, happen, say, note, say_if_loud}
use Rattle.hx_worlds.specs.Jobs
use Rattle.hx_worlds.specs.Scripts
use Rattle.hx_worlds.specs.Settles
use Rattle.hx_worlds.specs.Turns
use Rattle.hx_scripted.proofs.Asked.{IsAskedWell}
use Rattle.hx_scripted.proofs.Keeping.{Keeps, keeps_on, keeps_then, keeps_each, keeps_those, keeps_gives, makes_then, choice}

-- what is said
module _ (P : State → Type 0) (said : (charge : ℕ) (text : List ℕ) (x : State) → P x → Keeps P (say charge text x)) where
  pub keeps_note : (v : Voice) (n : Note) (x : State) → P x → Keeps P (note v n x)
  keeps_note Quiet n x s = record { left = s }
  keeps_note (Loud line) n x s = said 1 _ x s

  pub keeps_loud : (v : Voice) (charge : ℕ) (text : List ℕ) (x : State) → P x → Keeps P (say_if_loud v charge text x)
  keeps_loud Quiet charge text x s = record { left = s }
  keeps_loud (Loud line) charge text x s = said charge text x s

  finding : (t : Target) (f : Finding) (x : State) → P x → Keeps P (Turns.say_finding t f x)
  finding t findings.Failed x s = said 1 _ x s
  finding t (findings.Full f) x s = said _ _ x s
  finding t _ x s = record { left = s }

  entries_told : (entries : List Entry) (x : State) → P x → Keeps P (Turns.say_entries entries x)
  entries_told entries x s = keeps_each P (λ e y. Turns.say_finding e.target e.finding y) (λ e y there. finding e.target e.finding y there) entries x s

  outcome_lines : (k : ControllerId) (o : PassOutcome) (x : State) → P x → Keeps P (Turns.say_outcome k o x)
  outcome_lines k (ends.Sent n) x s = said 1 _ x s
  outcome_lines k (ends.Waiting n) x s = said 1 _ x s
  outcome_lines k (ends.Moved from to) x s = said 1 _ x s
  outcome_lines k (ends.Settled report) x s = keeps_then P _ _ (said 1 _ x s) (λ y there. entries_told report.entries y there)

  pub outcome_told : (v : Voice) (k : ControllerId) (o : Option PassOutcome) (x : State) → P x → Keeps P (Turns.tell_outcome v k o x)
  outcome_told Quiet k o x s = record { left = s }
  outcome_told (Loud line) k None x s = record { left = s }
  outcome_told (Loud line) k (Some o) x s = outcome_lines k o x s

  pub fault_noted : (v : Voice) (f : ControlFault) (x : State) → P x → Keeps P (Turns.note_fault v f x)
  fault_noted v (faults.NotLeader led_by) x s = keeps_note v _ x s
  fault_noted v (faults.Fenced now) x s = keeps_note v _ x s
  fault_noted v _ x s = record { left = s }

  report_lines : (r : Option Report) (x : State) → P x → Keeps P (Settles.say_report r x)
  report_lines None x s = record { left = s }
  report_lines (Some report) x s = entries_told report.entries x s

  settle_told : (v : Voice) (k : Option ControllerId) (o : Option Settled) (x : State) → P x → Keeps P (Settles.tell_settle v k o x)
  settle_told v None o x s = keeps_note v _ x s
  settle_told v (Some k) None x s = keeps_note v _ x s
  settle_told v (Some k) (Some o) x s = keeps_then P _ _ (said 1 _ x s) (λ y there. report_lines o.report y there)

  pub view_said : (x : State) → P x → Keeps P (Scripts.do_view x)
  view_said x s =
      keeps_each P (λ p y. Scripts.say_view_of p (view_of_part y.world.cluster p) y)
      (λ p y there. said (1 + length (view_of_part y.world.cluster p)) (view_line y.world.spec y.world.cluster.resources p (view_of_part y.world.cluster p)) y there)
      (viewed_parts x.world.cluster) x s

  route_said : (v : Voice) (index : ℕ) (t : StateId) (r : Option ResourceId) (x : State) → P x → Keeps P (Scripts.route_on v index t r x)
  route_said v index t None x s = keeps_note v _ x s
  route_said v index t (Some r) x s = said _ _ x s

  -- a call for a job: it is passed over, or made, or the job ends since its session did
  pub keeps_call : (v : Voice) (j : Job) (x : State) (skips can : Bool) (e : Event) (f : State → State) → P x
      → (skips ≡ false → can ≡ true → P (f (happened e x))) → (skips ≡ false → can ≡ false → P (Jobs.end_job j x))
      → Keeps P (if skips then note v notes.NoJob x else if can then and_then (make e x) (λ y. done (f y)) else note v notes.SessionEnded (Jobs.end_job j x))
  keeps_call v j x skips can e f s made ended =
      choice P skips _ _ (λ skip. keeps_note v notes.NoJob x s)
      (λ on. choice P can _ _
      (λ yes. makes_then P e x (λ y. done (f y)) (record { left = made on yes }))
      (λ no. keeps_note v notes.SessionEnded (Jobs.end_job j x) (ended on no)))

-- one of two things is done
chosen : (P : State → Type 0) (b : Bool) (f g : State → Deed) → ((x : State) → P x → Keeps P (f x)) → ((x : State) → P x → Keeps P (g x)) → (x : State) → P x → Keeps P (Turns.chosen b f g x)
chosen P true f g kf kg x s = kf x s
chosen P false f g kf kg x s = kg x s

turn_of_word : (P : State → Type 0) (is_of : Call → Bool) (calls : List Call) (f g : State → Deed) → ((x : State) → P x → Keeps P (f x)) → ((x : State) → P x → Keeps P (g x)) → (x : State) → P x
    → Keeps P (Turns.in_turn is_of calls f g x)
turn_of_word P is_of [] f g kf kg x s = kg x s
turn_of_word P is_of (call ∷ calls) f g kf kg x s = chosen P (is_of call) f g kf kg x s

-- the steps that words are made of, each of which keeps it
pub record StepsKeep (spec : Spec) (P : State → Type 0) : Type 0 where
  pub said : (charge : ℕ) (text : List ℕ) (x : State) → P x → Keeps P (say charge text x)
  pub idle : (k : ControllerId) (x : State) → P x → P (Turns.restarted k x)
  pub step : (v : Voice) (k : ControllerId) (x : State) → P x → Keeps P (Turns.step v k x)
  pub asked : (what : What) (x : State) → Ranges.is_in_range spec what ≡ true → P x → IsAskedWell x.world.cluster (step_asked x.world.cluster what)
  pub happens : (step : Admin) (x : State) → is_in_range x.world.cluster step ≡ true → refusal_of x.world.cluster step ≡ None → P x
      → Keeps P (happen (events.Admin step (did_of x.world.cluster step)) x)
  pub dies : (i : InstanceId) (x : State) → Ranges.has_instance spec i ≡ true → refusal_of x.world.cluster (steps.End i) ≡ None → P x
      → Keeps P (and_then (happen (events.Admin (steps.End i) dids.Done) x) (λ y. done (Jobs.adopt_in i None y)))
  pub fetch : (i : InstanceId) (x : State) → Ranges.has_instance spec i ≡ true → P x → Keeps P (Jobs.do_fetch i x)
  pub deliver : (v : Voice) (i : InstanceId) (id : MsgId) (x : State) → P x → Keeps P (Jobs.do_deliver v i id x)
  pub take : (v : Voice) (i : InstanceId) (id : MsgId) (x : State) → P x → Keeps P (Jobs.do_take v i id x)
  pub write : (v : Voice) (i : InstanceId) (id : MsgId) (x : State) → P x → Keeps P (Jobs.do_write v i id x)
  pub ack : (v : Voice) (i : InstanceId) (id : MsgId) (x : State) → P x → Keeps P (Jobs.do_ack v i id x)
  pub bring : (i : InstanceId) (x : State) → Ranges.has_instance spec i ≡ true → P x → Keeps P (Jobs.fetch_and_deliver i (fetched x.world.cluster i) x)
  pub live : (x : State) → P x → list_all (Ranges.has_instance spec) (map (λ e. e.1) (live_shown x.world.cluster)) ≡ true

module _ (spec : Spec) (P : State → Type 0) (keep : StepsKeep spec P) where
  -- turns
  under_way : (calls : List Call) (f : State → Run (Option PassOutcome)) → ((x : State) → P x → Keeps P (f x)) → (x : State) → P x → Keeps P (Turns.if_under_way calls f x)
  under_way [] f k x s = record { left = s }
  under_way (call ∷ calls) f k x s = k x s

  plan_made : (v : Voice) (k : ControllerId) (p : Option Plan) (x : State) → P x → Keeps P (Turns.make_plan v k p x)
  plan_made v k None x s = keep.step v k x s
  plan_made v k (Some p) x s = record { left = s }

  call_made : (v : Voice) (k : ControllerId) (calls : List Call) (x : State) → P x → Keeps P (Turns.do_call_of v k calls x)
  call_made v k (Send ∷ calls) x s =
      keeps_on P _ _ (plan_made v k (controller_of x.world k).plan x s) (λ o y there. under_way _ (λ z. Turns.step v k z) (λ z here. keep.step v k z here) y there)
  call_made v k _ x s = keep.step v k x s

  calls_made : (v : Voice) (k : ControllerId) (n : ℕ) (x : State) → P x → Keeps P (Turns.do_calls v k n x)
  calls_made v k zero x s = record { left = s }
  calls_made v k (suc n) x s =
      keeps_on P _ _ (call_made v k (Turns.left_of x k) x s) (λ o y there.
      keeps_on P _ _ (under_way _ (λ z. Turns.do_calls v k n z) (λ z here. calls_made v k n z here) y there) (λ p z here. keeps_gives P z (Turns.or_earlier o p) here))

  rest_made : (v : Voice) (k : ControllerId) (x : State) → P x → Keeps P (Turns.do_rest v k x)
  rest_made v k x s = calls_made v k (length (Turns.left_of x k)) x s

  begun : (v : Voice) (k : ControllerId) (calls : List Call) (x : State) → P x → Keeps P (Turns.begin_if_idle v k calls x)
  begun v k [] x s = keep.step v k x s
  begun v k (call ∷ calls) x s = record { left = s }

  passed : (v : Voice) (k : ControllerId) (x : State) → P x → Keeps P (Turns.do_pass v k x)
  passed v k x s =
      keeps_on P _ _ (begun v k (Turns.left_of x k) x s) (λ o y there.
      keeps_on P _ _ (rest_made v k y there) (λ p z here.
      keeps_on P _ _ (rest_made v k z here) (λ q u now. keeps_gives P u (Turns.or_earlier p q) now)))

  unasked : (r : Run (Option PassOutcome)) → Keeps P r → Keeps P (Turns.without_outcome r)
  unasked r k = keeps_on P r _ k (λ o y there. keeps_gives P y tt there)

  -- words of a turn
  out_of_turn : (v : Voice) (k : ControllerId) (x : State) → P x → Keeps P (Turns.out_of_turn v k x)
  out_of_turn v k x s = keeps_note P keep.said v _ x s

  word : (v : Voice) (k : ControllerId) (is_of : Call → Bool) (x : State) → P x → Keeps P (Turns.do_word v k is_of x)
  word v k is_of x s =
      turn_of_word P is_of _ _ (λ y. Turns.out_of_turn v k y) (λ y there. unasked _ (call_made v k (Turns.left_of y k) y there)) (λ y there. out_of_turn v k y there) x s

  words : (v : Voice) (k : ControllerId) (is_of : Call → Bool) (g : State → Deed) → ((x : State) → P x → Keeps P (g x)) → (x : State) → P x → Keeps P (Turns.do_words v k is_of g x)
  words v k is_of g kg x s = turn_of_word P is_of _ _ g (λ y there. unasked _ (calls_made v k _ y there)) kg x s

  passed_over : (v : Voice) (k : ControllerId) (x : State) → P x → Keeps P (Turns.pass_over v k x)
  passed_over v k x s =
      chosen P (Turns.is_passed_over (controller_of x.world k)) (λ y. done y) (λ y. Turns.out_of_turn v k y)
      (λ y there. keeps_gives P y tt there) (λ y there. out_of_turn v k y there) x s

  read : (v : Voice) (k : ControllerId) (kind : ReadKind) (x : State) → P x → Keeps P (Turns.do_read v k kind x)
  read v k kinds.Live x s = word v k _ x s
  read v k kinds.Mail x s = words v k _ (λ y. Turns.pass_over v k y) (λ y there. passed_over v k y there) x s
  read v k kinds.States x s = words v k _ (λ y. Turns.pass_over v k y) (λ y there. passed_over v k y there) x s
  read v k kinds.Ideals x s = word v k _ x s

  -- work
  carried : (i : InstanceId) (id : MsgId) (x : State) → P x → Keeps P (Jobs.carry i id x)
  carried i id x s = keeps_then P _ _ (keep.write Quiet i id x s) (λ y there. keep.ack Quiet i id y there)

  message_run : (i : InstanceId) (m : Message) (x : State) → P x → Keeps P (Jobs.run_message i m x)
  message_run i m x s = keeps_then P _ _ (keep.take Quiet i m.id x s) (λ y there. carried i m.id y there)

  worked : (i : InstanceId) (x : State) → Ranges.has_instance spec i ≡ true → P x → Keeps P (Jobs.do_work i x)
  worked i x there s =
      keeps_then P _ _ (keeps_each P (λ j y. Jobs.carry i j.message.id y) (λ j y here. carried i j.message.id y here) (Jobs.jobs_of i x) x s) (λ y here.
      keeps_then P _ _ (keep.bring i y there here) (λ z now. keeps_each P (Jobs.run_message i) (λ m u so. message_run i m u so) _ z now))

  -- settles
  all_worked : (x : State) → P x → Keeps P (Settles.work_all x)
  all_worked x s = keeps_those P (Ranges.has_instance spec) Jobs.do_work (λ i y there here. worked i y there here) (map (λ e. e.1) (live_shown x.world.cluster)) x (keep.live x s) s

  round_ended : (n : ℕ) (o : Option PassOutcome) (f : State → Run Settled) → ((x : State) → P x → Keeps P (f x)) → (x : State) → P x → Keeps P (Settles.unless_settled n o f x)
  round_ended n (Some (ends.Settled report)) f k x s = record { left = s }
  round_ended n _ f k x s = keeps_then P _ _ (all_worked x s) k

  rounds_made : (m : ℕ) (k : ControllerId) (n : ℕ) (x : State) → P x → Keeps P (Settles.rounds m k n x)
  rounds_made zero k n x s = record { left = s }
  rounds_made (suc m) k n x s =
      keeps_on P _ _ (passed Quiet k x s) (λ o y there. round_ended (n + 1) o (λ z. Settles.rounds m k (n + 1) z) (λ z here. rounds_made m k (n + 1) z here) y there)

  pub settle_keeps : (k : Option ControllerId) (x : State) → P x → Keeps P (Settles.settle_led k x)
  settle_keeps None x s = record { left = s }
  settle_keeps (Some k) x s =
      keeps_on P _ (λ o y. gives y (Some o)) (rounds_made (Settles.enough_rounds x.world.cluster) k 0 x s) (λ o y there. keeps_gives P y (Some o) there)

  settle_done : (v : Voice) (x : State) → P x → Keeps P (Settles.do_settle v x)
  settle_done v x s = keeps_on P _ _ (settle_keeps _ x s) (λ o y there. settle_told P keep.said v x.world.cluster.leader o y there)

  -- steps of the cluster
  pub step_keeps : (v : Voice) (step : Admin) (f : Option StepFault) (x : State) → refusal_of x.world.cluster step ≡ f → is_in_range x.world.cluster step ≡ true → P x → Keeps P (Scripts.stepped v step f x)
  step_keeps v step (Some f) x is well s = keeps_note P keep.said v _ x s
  step_keeps v step None x is well s = keep.happens step x well is s

  asked : (v : Voice) (step : Option Admin) (x : State) → IsAskedWell x.world.cluster step → P x → Keeps P (Scripts.do_asked v step x)
  asked v None x well s = keeps_note P keep.said v _ x s
  asked v (Some step) x well s = step_keeps v step _ x refl well s

  pub die_keeps : (v : Voice) (i : InstanceId) (f : Option StepFault) (x : State) → Ranges.has_instance spec i ≡ true → refusal_of x.world.cluster (steps.End i) ≡ f → P x → Keeps P (Scripts.died v i f x)
  die_keeps v i (Some f) x there is s = keeps_note P keep.said v _ x s
  die_keeps v i None x there is s = keep.dies i x there is s

  -- what a line asks for
  pub what_keeps : (v : Voice) (what : What) (x : State) → Ranges.is_in_range spec what ≡ true → P x → Keeps P (Scripts.do_what v what x)
  what_keeps v (asks.Die i) x is s = die_keeps v i _ x is refl s
  what_keeps v (asks.Begin k) x is s = unasked _ (keep.step v k (Turns.restarted k x) (keep.idle k x s))
  what_keeps v (asks.Read k kind) x is s = read v k kind x s
  what_keeps v (asks.Send k) x is s = word v k _ x s
  what_keeps v (asks.Post k) x is s = word v k _ x s
  what_keeps v (asks.Pass k) x is s = unasked _ (passed v k x s)
  what_keeps v (asks.Fetch i) x is s = keep.fetch i x is s
  what_keeps v (asks.Deliver i id) x is s = keep.deliver v i id x s
  what_keeps v (asks.Take i id) x is s = keep.take v i id x s
  what_keeps v (asks.Write i id) x is s = keep.write v i id x s
  what_keeps v (asks.Ack i id) x is s = keep.ack v i id x s
  what_keeps v (asks.Work i) x is s = worked i x is s
  what_keeps v asks.Settle x is s = settle_done v x s
  what_keeps v asks.View x is s = view_said P keep.said x s
  what_keeps v (asks.Route name part state) x is s = route_said P keep.said v part state _ x s
  what_keeps v asks.Summary x is s = keep.said 1 _ x s
  what_keeps v what x is s = asked v (step_asked x.world.cluster what) x (keep.asked what x is s) s
