-- What controllers and settles bring is what they add.
use Rattle.std.proofs.Common.{ℕ, zero, suc, length, Bool, true, false, List, [], ◌∷◌}
use Rattle.std.specs.Prelude.{Option, None, Some}
use Rattle.hx_ids.specs.declared.ControllerId.{ControllerId}
use Rattle.hx_cluster.specs.declared.planning.Entry.{Entry}
use Rattle.hx_cluster.specs.declared.planning.Plan.{Plan}
use Rattle.hx_cluster.specs.declared.planning.Target.{Target}
use Rattle.hx_cluster.specs.declared.planning.Finding.{Finding}
use Rattle.hx_cluster.specs.declared.planning.Finding.TheVariants as findings
use Rattle.hx_print.specs.declared.Note.{Note}
use Rattle.hx_script.specs.declared.ReadKind.{ReadKind}
use Rattle.hx_script.specs.declared.ReadKind.TheVariants as kinds
use Rattle.hx_pass.specs.Turns.{Call, Live, Mail, States, Ideals, Send, Post}
use Rattle.hx_control.specs.declared.PassOutcome.{PassOutcome}
use Rattle.hx_control.specs.declared.PassOutcome.TheVariants as ends
use Rattle.hx_control.specs.declared.ControlFault.{ControlFault}
use Rattle.hx_control.specs.declared.ControlFault.TheVariants as faults
use Rattle.hx_control.specs.Controllers.{Controller}
use Rattle.hx_control.specs.Steps.{Step, Calls, Plans, Refuses}
use Rattle.hx_worlds.specs.World.{State, controller_of}
use Rattle.hx_worlds.specs.declared.Voice.{Voice}
use Rattle.hx_worlds.specs.declared.Voice.TheVariants.{Loud, Quiet}
use Rattle.hx_worlds.specs.Runs.{Run, Deed, note, say_if_loud}
use Rattle.hx_worlds.specs.Brings.{past_of, BringsIts}
use Rattle.hx_worlds.specs.Turns
use Rattle.hx_worlds.proofs.Brought.{brings_gives, brings_on, brings_then, brings_each, brings_happening, brings_line}

-- notes and lines
pub brings_note : (v : Voice) (n : Note) (x : State) → BringsIts (past_of x) (note v n x)
brings_note Quiet n x = brings_gives _ _
brings_note (Loud line) n x = brings_line 1 _ x

pub brings_loud : (v : Voice) (charge : ℕ) (text : List ℕ) (x : State) → BringsIts (past_of x) (say_if_loud v charge text x)
brings_loud Quiet charge text x = brings_gives _ _
brings_loud (Loud line) charge text x = brings_line charge text x

finding : (t : Target) (f : Finding) (x : State) → BringsIts (past_of x) (Turns.say_finding t f x)
finding t findings.Failed x = brings_line 1 _ x
finding t (findings.Full f) x = brings_line _ _ x
finding t (findings.Pending id) x = brings_gives _ _
finding t findings.AtBest x = brings_gives _ _
finding t findings.Sent x = brings_gives _ _
finding t (findings.Held h) x = brings_gives _ _

pub brings_entries : (entries : List Entry) (x : State) → BringsIts (past_of x) (Turns.say_entries entries x)
brings_entries entries x = brings_each (λ e y. Turns.say_finding e.target e.finding y) (λ e y. finding e.target e.finding y) entries x

outcome_lines : (k : ControllerId) (o : PassOutcome) (x : State) → BringsIts (past_of x) (Turns.say_outcome k o x)
outcome_lines k (ends.Sent n) x = brings_line 1 _ x
outcome_lines k (ends.Waiting n) x = brings_line 1 _ x
outcome_lines k (ends.Moved from to) x = brings_line 1 _ x
outcome_lines k (ends.Settled report) x = brings_then (past_of x) _ _ (brings_line 1 _ x) (λ y. brings_entries report.entries y)

told_outcome : (v : Voice) (k : ControllerId) (o : Option PassOutcome) (x : State) → BringsIts (past_of x) (Turns.tell_outcome v k o x)
told_outcome Quiet k o x = brings_gives _ _
told_outcome (Loud line) k None x = brings_gives _ _
told_outcome (Loud line) k (Some o) x = outcome_lines k o x

fault_note : (v : Voice) (f : ControlFault) (x : State) → BringsIts (past_of x) (Turns.note_fault v f x)
fault_note v (faults.NotLeader led_by) x = brings_note v _ x
fault_note v (faults.Fenced now) x = brings_note v _ x
fault_note v (faults.OldPass now) x = brings_gives _ _
fault_note v (faults.HistoryFull weight) x = brings_gives _ _
fault_note v faults.OtherBoard x = brings_gives _ _
fault_note v faults.OutOfMemory x = brings_gives _ _

-- steps and calls
step_made : (v : Voice) (k : Controller) (s : Step) (x : State) → BringsIts (past_of x) (Turns.stepped v k s x)
step_made v k (Calls e o) x =
    brings_then (past_of x) _ _ (brings_happening e x) (λ y.
    brings_then (past_of y) _ _ (told_outcome v k.id o _) (λ z. brings_gives _ _))
step_made v k (Plans p) x = brings_gives _ _
step_made v k (Refuses f) x = brings_then (past_of x) _ _ (fault_note v f _) (λ y. brings_gives _ _)

pub brings_step : (v : Voice) (k : ControllerId) (x : State) → BringsIts (past_of x) (Turns.step v k x)
brings_step v k x = step_made v (controller_of x.world k) _ x

pub brings_begin : (v : Voice) (k : ControllerId) (x : State) → BringsIts (past_of x) (Turns.do_begin v k x)
brings_begin v k x = brings_step v k (Turns.restarted k x)

under_way : (calls : List Call) (f : State → Run (Option PassOutcome)) → ((x : State) → BringsIts (past_of x) (f x)) → (x : State) → BringsIts (past_of x) (Turns.if_under_way calls f x)
under_way [] f b x = brings_gives _ _
under_way (call ∷ calls) f b x = b x

plan_made : (v : Voice) (k : ControllerId) (p : Option Plan) (x : State) → BringsIts (past_of x) (Turns.make_plan v k p x)
plan_made v k None x = brings_step v k x
plan_made v k (Some p) x = brings_gives x None

call_made : (v : Voice) (k : ControllerId) (calls : List Call) (x : State) → BringsIts (past_of x) (Turns.do_call_of v k calls x)
call_made v k [] x = brings_step v k x
call_made v k (Live ∷ calls) x = brings_step v k x
call_made v k (Mail s ∷ calls) x = brings_step v k x
call_made v k (States s ∷ calls) x = brings_step v k x
call_made v k (Ideals ∷ calls) x = brings_step v k x
call_made v k (Send ∷ calls) x =
    brings_on (past_of x) _ _ (plan_made v k (controller_of x.world k).plan x) (λ o y. under_way _ _ (λ z. brings_step v k z) y)
call_made v k (Post ∷ calls) x = brings_step v k x

calls_made : (v : Voice) (k : ControllerId) (n : ℕ) (x : State) → BringsIts (past_of x) (Turns.do_calls v k n x)
calls_made v k zero x = brings_gives _ _
calls_made v k (suc n) x =
    brings_on (past_of x) _ _ (call_made v k (Turns.left_of x k) x) (λ o y.
    brings_on (past_of y) _ _ (under_way _ _ (λ z. calls_made v k n z) y) (λ p z. brings_gives _ _))

rest_made : (v : Voice) (k : ControllerId) (x : State) → BringsIts (past_of x) (Turns.do_rest v k x)
rest_made v k x = calls_made v k (length (Turns.left_of x k)) x

begun : (v : Voice) (k : ControllerId) (calls : List Call) (x : State) → BringsIts (past_of x) (Turns.begin_if_idle v k calls x)
begun v k [] x = brings_step v k x
begun v k (call ∷ calls) x = brings_gives _ _

pub brings_pass : (v : Voice) (k : ControllerId) (x : State) → BringsIts (past_of x) (Turns.do_pass v k x)
brings_pass v k x =
    brings_on (past_of x) _ _ (begun v k (Turns.left_of x k) x) (λ o y.
    brings_on (past_of y) _ _ (rest_made v k y) (λ p z.
    brings_on (past_of z) _ _ (rest_made v k z) (λ q u. brings_gives u (Turns.or_earlier p q))))

pub brings_unasked : (r : Run (Option PassOutcome)) (x : State) → BringsIts (past_of x) r → BringsIts (past_of x) (Turns.without_outcome r)
brings_unasked r x b = brings_on (past_of x) r _ b (λ o y. brings_gives _ _)

-- words of a turn
chosen : (b : Bool) (f g : State → Deed) → ((x : State) → BringsIts (past_of x) (f x)) → ((x : State) → BringsIts (past_of x) (g x)) → (x : State) → BringsIts (past_of x) (Turns.chosen b f g x)
chosen true f g bf bg x = bf x
chosen false f g bf bg x = bg x

turn_of_word : (is_of : Call → Bool) (calls : List Call) (f g : State → Deed) → ((x : State) → BringsIts (past_of x) (f x)) → ((x : State) → BringsIts (past_of x) (g x)) → (x : State) → BringsIts (past_of x) (Turns.in_turn is_of calls f g x)
turn_of_word is_of [] f g bf bg x = bg x
turn_of_word is_of (call ∷ calls) f g bf bg x = chosen (is_of call) f g bf bg x

out_of_turn : (v : Voice) (k : ControllerId) (x : State) → BringsIts (past_of x) (Turns.out_of_turn v k x)
out_of_turn v k x = brings_note v _ x

word : (v : Voice) (k : ControllerId) (is_of : Call → Bool) (x : State) → BringsIts (past_of x) (Turns.do_word v k is_of x)
word v k is_of x = turn_of_word is_of _ _ _ (λ y. brings_unasked _ y (call_made v k (Turns.left_of y k) y)) (λ y. out_of_turn v k y) x

words : (v : Voice) (k : ControllerId) (is_of : Call → Bool) (g : State → Deed) → ((x : State) → BringsIts (past_of x) (g x)) → (x : State) → BringsIts (past_of x) (Turns.do_words v k is_of g x)
words v k is_of g bg x = turn_of_word is_of _ _ g (λ y. brings_unasked _ y (calls_made v k _ y)) bg x

pub brings_word : (v : Voice) (k : ControllerId) (is_of : Call → Bool) (x : State) → BringsIts (past_of x) (Turns.do_word v k is_of x)
brings_word v k is_of x = word v k is_of x

passed_over : (v : Voice) (k : ControllerId) (x : State) → BringsIts (past_of x) (Turns.pass_over v k x)
passed_over v k x = chosen (Turns.is_passed_over (controller_of x.world k)) _ _ (λ y. brings_gives _ _) (λ y. out_of_turn v k y) x

pub brings_read : (v : Voice) (k : ControllerId) (kind : ReadKind) (x : State) → BringsIts (past_of x) (Turns.do_read v k kind x)
brings_read v k kinds.Live x = word v k _ x
brings_read v k kinds.Mail x = words v k _ _ (λ y. passed_over v k y) x
brings_read v k kinds.States x = words v k _ _ (λ y. passed_over v k y) x
brings_read v k kinds.Ideals x = word v k _ x
