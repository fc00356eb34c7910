-- How a controller's turn is kept: by the call that comes next, and what was shown.
use Rattle.std.specs.Prelude.{◌≡◌, ℕ, ◌-◌, ◌<◌, ◌^◌, List, [], ◌∷◌, ◌++◌, length, drop, map, Option, Some, option_map, IfSome}
use Rattle.hx_ids.specs.declared.SessionId.{SessionId}
use Rattle.hx_ids.specs.declared.InstanceId.{InstanceId}
use Rattle.hx_cluster.specs.declared.planning.Plan.{Plan}
use Rattle.hx_cluster.specs.declared.planning.View.{View}
use Rattle.hx_cluster.specs.declared.planning.Ideals.{Ideals as Wants}
use Rattle.hx_formed.specs.Formed.{IsFound}
use Rattle.hx_pass.specs.Drafts.{finished}
use Rattle.hx_pass.specs.Turns.{Call, Live, Mail, States, Ideals, Send, Post}
use Rattle.hx_control.specs.declared.controller.Next.{Next}
use Rattle.hx_control.specs.declared.controller.Next.TheVariants as nexts
use Rattle.hx_control.specs.declared.controller.Planned.{Planned}
use Rattle.hx_control.specs.declared.controller.Planned.TheVariants as wanted
use Rattle.hx_control.specs.declared.controller.Controller.TheInside.{Inside}
use Rattle.hx_control.specs.Controllers.{Controller}

-- the calls behind the reads of mail, and those behind the reads of states
abbrev pub calls_after_mail : List (SessionId × InstanceId) → List Call
calls_after_mail live = map (λ e. States e.0) live ++ Ideals ∷ Send ∷ Post ∷ []

-- the calls that are left, where so many of the shown sessions' mails or states were read
abbrev pub left_of : Next → List (SessionId × InstanceId) → List Call
left_of nexts.Begin live = []
left_of nexts.Live live = Live ∷ []
left_of (nexts.Mail n) live = map (λ e. Mail e.0) (drop n live) ++ calls_after_mail live
left_of (nexts.States n) live = calls_after_mail (drop n live)
left_of nexts.Ideals live = Ideals ∷ Send ∷ Post ∷ []
left_of nexts.Send live = Send ∷ Post ∷ []
left_of nexts.Post live = Post ∷ []

-- how many of them are reads of mail, reads of states, and others, where so many sessions were shown
abbrev pub mails_at : Next → ℕ → ℕ
mails_at (nexts.Mail n) sessions = sessions - n
mails_at _ sessions = 0

abbrev pub states_at : Next → ℕ → ℕ
states_at (nexts.Mail n) sessions = sessions
states_at (nexts.States n) sessions = sessions - n
states_at _ sessions = 0

abbrev pub others_at : Next → ℕ
others_at nexts.Begin = 0
others_at nexts.Live = 1
others_at (nexts.Mail n) = 3
others_at (nexts.States n) = 3
others_at nexts.Ideals = 3
others_at nexts.Send = 2
others_at nexts.Post = 1

abbrev pub controller : Inside → Controller
controller a = record {
  id = a.id;
  turn = record { left = left_of a.next a.view.live; begun = a.begun; view = a.view };
  plan = option_map (finished a.view) a.draft;
}

abbrev pub with_plan : Controller → Plan → Controller
with_plan x p = record x { plan = Some p }

-- a session is left whose mail, or whose states, are read next
abbrev pub IsLeft : Next → ℕ → Type 0
IsLeft (nexts.Mail n) sessions = n < sessions
IsLeft (nexts.States n) sessions = n < sessions
IsLeft _ sessions = Unit {0}

-- the spare ideals, or the shown ones, are those of the view that was planned last, if there is one
pub record IsPlanned (planned : Planned) (spare shown : Wants) (last : Option View) : Type 0 where
  pub spared : planned ≡ wanted.Spare → IfSome last (λ v. v.ideals ≡ spare)
  pub shows : planned ≡ wanted.Shown → IfSome last (λ v. v.ideals ≡ shown)

-- what is drafted, or posted next, is of the view that was planned last
pub record IsTurn (a : Inside) : Type 0 where
  pub left : IsLeft a.next (length a.view.live)
  pub few : length a.view.live < 2 ^ 32
  pub formed : IsFound a.formed a.view
  pub drafted : IfSome a.draft (λ d. a.planner ≡ Some a.view)
  pub posts : a.next ≡ nexts.Post → a.planner ≡ Some a.view
  pub wants : IsPlanned a.planned a.spare a.view.ideals a.planner
