-- A controller: its number, its turn, and the plan of that turn where it was made.
use Rattle.std.specs.Prelude.{Bool, true, false, ◌-◌, List, [], ◌∷◌, length, Option, None, Some}
use Rattle.hx_lists.specs.Lists.{count}
use Rattle.hx_ids.specs.declared.ControllerId.{ControllerId}
use Rattle.hx_cluster.specs.declared.planning.Plan.{Plan}
use Rattle.hx_pass.specs.Turns.{Call, Live, Mail, States, Ideals, Send, Post, Turn, idle_turn}
use Rattle.hx_control.specs.declared.Stage.{Stage}
use Rattle.hx_control.specs.declared.Stage.TheVariants as stages

pub record Controller : Type 0 where
  pub id : ControllerId
  pub turn : Turn
  pub plan : Option Plan

abbrev pub idle_controller : ControllerId → Controller
idle_controller k = record { id = k; turn = idle_turn; plan = None }

-- the calls of one kind
abbrev pub is_mail_call : Call → Bool
is_mail_call (Mail s) = true
is_mail_call _ = false

abbrev pub is_states_call : Call → Bool
is_states_call (States s) = true
is_states_call _ = false

-- where its turn is. Of the calls for each session that was shown, those are done that aren't left
abbrev pub stage_before_dispatch : Option Plan → Stage
stage_before_dispatch None = stages.Plan
stage_before_dispatch (Some plan) = stages.Send

abbrev pub stage_at : Controller → List Call → Stage
stage_at x [] = stages.Idle
stage_at x (Live ∷ rest) = stages.Live
stage_at x (Mail s ∷ rest) = stages.Mail (length x.turn.view.live - count is_mail_call x.turn.left)
stage_at x (States s ∷ rest) = stages.States (length x.turn.view.live - count is_states_call x.turn.left)
stage_at x (Ideals ∷ rest) = stages.Ideals
stage_at x (Send ∷ rest) = stage_before_dispatch x.plan
stage_at x (Post ∷ rest) = stages.Post

abbrev pub stage : Controller → Stage
stage x = stage_at x x.turn.left
