-- The words for the steps of a turn.
use Rattle.std.specs.Prelude.{Bool, true, false, List, [], ◌∷◌, Option}
use Rattle.hx_ids.specs.declared.ControllerId.{ControllerId}
use Rattle.hx_pass.specs.Turns.{Call}
use Rattle.hx_control.specs.Controllers.{is_mail_call, is_states_call}
use Rattle.hx_control.specs.declared.Stage.{Stage}
use Rattle.hx_control.specs.declared.Stage.TheVariants as stages
use Rattle.hx_control.specs.declared.PassOutcome.{PassOutcome}
use Rattle.hx_print.specs.declared.Word.{Word}
use Rattle.hx_print.specs.declared.Word.TheVariants as words
use Rattle.hx_worlds.specs.declared.Voice.{Voice}
use Rattle.hx_worlds.specs.World.{State}
use Rattle.hx_worlds.specs.Runs.{Run, go_on}
use Rattle.hx_worlds.specs.Turns.{left_of, if_under_way, step, is_live_call, is_ideals_call, is_send_call, is_post_call}

abbrev pub word_for : Stage → Word
word_for stages.Idle = words.Begin
word_for stages.Live = words.Live
word_for (stages.Mail n) = words.Mail
word_for (stages.States n) = words.States
word_for stages.Ideals = words.Ideals
word_for stages.Plan = words.Send
word_for stages.Send = words.Send
word_for stages.Post = words.Post

-- whether the next call of a turn is of a kind
abbrev pub is_first_of : (Call → Bool) → List Call → Bool
is_first_of is_of [] = false
is_first_of is_of (call ∷ calls) = is_of call

-- the calls of a word. No call begins a turn
abbrev pub is_call_of : Word → Call → Bool
is_call_of words.Begin = λ call. false
is_call_of words.Live = is_live_call
is_call_of words.Mail = is_mail_call
is_call_of words.States = is_states_call
is_call_of words.Ideals = is_ideals_call
is_call_of words.Send = is_send_call
is_call_of words.Post = is_post_call

-- and the stages of a word
abbrev pub is_at : Word → Stage → Bool
is_at words.Live stages.Live = true
is_at words.Mail (stages.Mail n) = true
is_at words.States (stages.States n) = true
is_at words.Ideals stages.Ideals = true
is_at words.Send stages.Plan = true
is_at words.Send stages.Send = true
is_at words.Post stages.Post = true
is_at _ _ = false

-- a step of a turn that is under way, and two steps of one
abbrev pub step_on : Voice → ControllerId → State → Run (Option PassOutcome)
step_on v k x = if_under_way (left_of x k) (λ z. step v k z) x

abbrev pub plan_and_send : Voice → ControllerId → State → Run (Option PassOutcome)
plan_and_send v k x = go_on (step v k x) (λ _ y. step_on v k y)
