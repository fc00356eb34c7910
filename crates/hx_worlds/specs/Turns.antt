-- What controllers do in a world: they make the steps of their turns, one by one, several of a kind, or all that are left.
use Rattle.std.specs.Prelude.{ℕ, zero, suc, ◌+◌, Bool, true, false, ◌==◌, List, [], ◌∷◌, length, Option, None, Some}
use Rattle.hx_lists.specs.Lists.{count}
use Rattle.hx_ids.specs.declared.ControllerId.{ControllerId}
use Rattle.hx_cluster.specs.declared.planning.Entry.{Entry}
use Rattle.hx_cluster.specs.declared.planning.Plan.{Plan}
use Rattle.hx_cluster.specs.declared.planning.Target.{Target}
use Rattle.hx_cluster.specs.declared.planning.Finding.{Finding}
use Rattle.hx_cluster.specs.declared.planning.Finding.TheVariants as findings
use Rattle.hx_cluster.specs.Reads.{live_shown}
use Rattle.hx_print.specs.declared.Note.TheVariants as notes
use Rattle.hx_print.specs.declared.Word.{Word}
use Rattle.hx_print.specs.declared.Word.TheVariants as words
use Rattle.hx_print.specs.Texts.{sent_text, waiting_text, moved_text, settled_text, failed_text, full_text}
use Rattle.hx_script.specs.declared.ReadKind.{ReadKind}
use Rattle.hx_script.specs.declared.ReadKind.TheVariants as kinds
use Rattle.hx_pass.specs.Turns.{Call, Live, Mail, States, Ideals, Send, Post}
use Rattle.hx_control.specs.declared.PassOutcome.{PassOutcome}
use Rattle.hx_control.specs.declared.PassOutcome.TheVariants as ends
use Rattle.hx_control.specs.declared.ControlFault.{ControlFault}
use Rattle.hx_control.specs.declared.ControlFault.TheVariants as faults
use Rattle.hx_control.specs.Controllers.{Controller, idle_controller, is_mail_call, is_states_call}
use Rattle.hx_control.specs.Steps.{Step, Calls, Plans, Refuses, step_of, after_step}
use Rattle.hx_worlds.specs.declared.Voice.{Voice}
use Rattle.hx_worlds.specs.declared.Voice.TheVariants.{Loud, Quiet}
use Rattle.hx_worlds.specs.World.{State, controller_of, with_controller}
use Rattle.hx_worlds.specs.Runs.{Run, Deed, gives, done, go_on, and_then, happen, say, note, for_each}

-- the calls of a controller's turn that are left
abbrev pub left_of : State → ControllerId → List Call
left_of x k = (controller_of x.world k).turn.left

-- the lines of a settled report: replicas that failed, and those that a bound holds back, by resource, partition and instance
abbrev pub say_finding : Target → Finding → State → Deed
say_finding t findings.Failed x = say 1 (failed_text x.world.spec x.world.cluster.resources t.instance t.part) x
say_finding t (findings.Full f) x =
    say (1 + length f.holders) (full_text x.world.spec x.world.cluster.resources (live_shown x.world.cluster) f) x
say_finding t _ x = done x

abbrev pub say_entries : List Entry → State → Deed
say_entries entries x = for_each (λ e y. say_finding e.target e.finding y) entries x

-- the lines of an outcome
abbrev pub say_outcome : ControllerId → PassOutcome → State → Deed
say_outcome k (ends.Sent n) x = say 1 (sent_text k n) x
say_outcome k (ends.Waiting n) x = say 1 (waiting_text k n) x
say_outcome k (ends.Moved from to) x = say 1 (moved_text k from to) x
say_outcome k (ends.Settled report) x = and_then (say 1 (settled_text k) x) (λ y. say_entries report.entries y)

abbrev pub tell_outcome : Voice → ControllerId → Option PassOutcome → State → Deed
tell_outcome (Loud line) k (Some outcome) x = say_outcome k outcome x
tell_outcome _ k _ x = done x

-- the note of a refusal. In a world every pass number stands, since only its controller raises it, and each turn is of the board
abbrev pub note_fault : Voice → ControlFault → State → Deed
note_fault v (faults.NotLeader led_by) x = note v (notes.NotLeader led_by) x
note_fault v (faults.Fenced now) x = note v (notes.Fenced now) x
note_fault v _ x = done x

-- a step of a turn. Its answer is the outcome, where it was a dispatch
abbrev pub stepped : Voice → Controller → Step → State → Run (Option PassOutcome)
stepped v k (Calls e outcome) x =
    and_then (happen e x) (λ y.
    and_then (tell_outcome v k.id outcome (with_controller (after_step x.world.cluster k (Calls e outcome)) y)) (λ z. gives z outcome))
stepped v k (Plans p) x = gives (with_controller (after_step x.world.cluster k (Plans p)) x) None
stepped v k (Refuses fault) x =
    and_then (note_fault v fault (with_controller (after_step x.world.cluster k (Refuses fault)) x)) (λ y. gives y None)

abbrev pub step_controller : Voice → Controller → State → Run (Option PassOutcome)
step_controller v k x = stepped v k (step_of x.world.spec x.world.cluster k) x

abbrev pub step : Voice → ControllerId → State → Run (Option PassOutcome)
step v k x = step_controller v (controller_of x.world k) x

-- a turn that is given up is idle
abbrev pub restarted : ControllerId → State → State
restarted k x = with_controller (idle_controller k) x

abbrev pub do_begin : Voice → ControllerId → State → Run (Option PassOutcome)
do_begin v k x = step v k (restarted k x)

-- what is done only where a turn is under way, so not after a refusal
abbrev pub if_under_way : List Call → (State → Run (Option PassOutcome)) → State → Run (Option PassOutcome)
if_under_way [] f x = gives x None
if_under_way (call ∷ calls) f x = f x

-- the next call of a turn; before the dispatch the plan is made, where it wasn't made before
abbrev pub make_plan : Voice → ControllerId → Option Plan → State → Run (Option PassOutcome)
make_plan v k None x = step v k x
make_plan v k (Some plan) x = gives x None

abbrev pub do_call_of : Voice → ControllerId → List Call → State → Run (Option PassOutcome)
do_call_of v k (Send ∷ calls) x =
    go_on (make_plan v k (controller_of x.world k).plan x) (λ _ y. if_under_way (left_of y k) (λ z. step v k z) y)
do_call_of v k _ x = step v k x

abbrev pub do_call : Voice → ControllerId → State → Run (Option PassOutcome)
do_call v k x = do_call_of v k (left_of x k) x

-- the later of two outcomes, if there is one
abbrev pub or_earlier : Option PassOutcome → Option PassOutcome → Option PassOutcome
or_earlier earlier None = earlier
or_earlier earlier (Some outcome) = Some outcome

-- so many calls of a turn, up to one that is refused
abbrev pub do_calls : Voice → ControllerId → ℕ → State → Run (Option PassOutcome)
do_calls v k zero x = gives x None
do_calls v k (suc n) x =
    go_on (do_call v k x) (λ o y.
    go_on (if_under_way (left_of y k) (λ z. do_calls v k n z) y) (λ p z. gives z (or_earlier o p)))

-- the calls that are left
abbrev pub do_rest : Voice → ControllerId → State → Run (Option PassOutcome)
do_rest v k x = do_calls v k (length (left_of x k)) x

-- a whole turn where it is idle, and else its rest. Which calls come after live is known once it was made
abbrev pub begin_if_idle : Voice → ControllerId → List Call → State → Run (Option PassOutcome)
begin_if_idle v k [] x = step v k x
begin_if_idle v k (call ∷ calls) x = gives x None

abbrev pub do_pass : Voice → ControllerId → State → Run (Option PassOutcome)
do_pass v k x =
    go_on (begin_if_idle v k (left_of x k) x) (λ _ y.
    go_on (do_rest v k y) (λ o z.
    go_on (do_rest v k z) (λ p u. gives u (or_earlier o p))))

-- an operation whose outcome nobody asks for
abbrev pub without_outcome : Run (Option PassOutcome) → Deed
without_outcome r = go_on r (λ _ x. done x)

-- the next word of a turn
abbrev pub word_of : List Call → Word
word_of [] = words.Begin
word_of (Live ∷ calls) = words.Live
word_of (Mail s ∷ calls) = words.Mail
word_of (States s ∷ calls) = words.States
word_of (Ideals ∷ calls) = words.Ideals
word_of (Send ∷ calls) = words.Send
word_of (Post ∷ calls) = words.Post

abbrev pub out_of_turn : Voice → ControllerId → State → Deed
out_of_turn v k x = note v (notes.OutOfTurn (word_of (left_of x k))) x

-- the calls of a word, which are done only in their turn
abbrev pub is_live_call : Call → Bool
is_live_call Live = true
is_live_call _ = false

abbrev pub is_ideals_call : Call → Bool
is_ideals_call Ideals = true
is_ideals_call _ = false

abbrev pub is_send_call : Call → Bool
is_send_call Send = true
is_send_call _ = false

abbrev pub is_post_call : Call → Bool
is_post_call Post = true
is_post_call _ = false

abbrev pub chosen : Bool → (State → Deed) → (State → Deed) → State → Deed
chosen true f otherwise x = f x
chosen false f otherwise x = otherwise x

abbrev pub in_turn : (Call → Bool) → List Call → (State → Deed) → (State → Deed) → State → Deed
in_turn is_of [] f otherwise x = otherwise x
in_turn is_of (call ∷ calls) f otherwise x = chosen (is_of call) f otherwise x

-- a word for the one call that is next
abbrev pub do_word : Voice → ControllerId → (Call → Bool) → State → Deed
do_word v k is_of x =
    in_turn is_of (left_of x k) (λ y. without_outcome (do_call v k y)) (λ y. out_of_turn v k y) x

-- a word for all calls of its kind, one for each session that was shown
abbrev pub do_words : Voice → ControllerId → (Call → Bool) → (State → Deed) → State → Deed
do_words v k is_of otherwise x =
    in_turn is_of (left_of x k) (λ y. without_outcome (do_calls v k (count is_of (left_of y k)) y)) otherwise x

-- where `live` showed no session there is no mail and there are no states to read: these words do nothing before the ideals
abbrev pub is_nothing_shown : List Call → ℕ → Bool
is_nothing_shown (Ideals ∷ calls) shown = shown == 0
is_nothing_shown _ shown = false

abbrev pub is_passed_over : Controller → Bool
is_passed_over k = is_nothing_shown k.turn.left (length k.turn.view.live)

abbrev pub pass_over : Voice → ControllerId → State → Deed
pass_over v k x = chosen (is_passed_over (controller_of x.world k)) (λ y. done y) (λ y. out_of_turn v k y) x

abbrev pub do_read : Voice → ControllerId → ReadKind → State → Deed
do_read v k kinds.Live x = do_word v k is_live_call x
do_read v k kinds.Mail x = do_words v k is_mail_call (λ y. pass_over v k y) x
do_read v k kinds.States x = do_words v k is_states_call (λ y. pass_over v k y) x
do_read v k kinds.Ideals x = do_word v k is_ideals_call x

abbrev pub do_send : Voice → ControllerId → State → Deed
do_send v k x = do_word v k is_send_call x

abbrev pub do_post : Voice → ControllerId → State → Deed
do_post v k x = do_word v k is_post_call x
