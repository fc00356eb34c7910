-- Where a controller's turn is, and which call comes next.
use Rattle.std.proofs.Common.{◌≡◌, ℕ, Bool, true, false, ◌==◌, List, [], ◌∷◌, Option, Some, None, refl, ap, ◌∙◌}
use Rattle.hx_cluster.specs.declared.planning.Plan.{Plan}
use Rattle.hx_pass.specs.Turns.{Call, Send}
use Rattle.hx_control.specs.declared.Stage.{Stage}
use Rattle.hx_control.specs.declared.Stage.TheVariants as stages
use Rattle.hx_control.specs.Controllers.{Controller, stage, stage_at, stage_before_dispatch}
use Rattle.hx_control.specs.declared.PassOutcome.{PassOutcome}
use Rattle.hx_ids.specs.declared.ControllerId.{ControllerId}
use Rattle.hx_worlds.specs.declared.Voice.{Voice}
use Rattle.hx_worlds.specs.World.{State, controller_of}
use Rattle.hx_worlds.specs.Runs.{Run, Deed, gives, go_on}
use Rattle.hx_worlds.specs.Turns.{word_of, left_of, if_under_way, begin_if_idle, step, make_plan, do_call_of, do_call, in_turn, chosen, is_nothing_shown}
use Rattle.hx_scene.proofs.Reaching.{after_none}
use Rattle.hx_print.specs.declared.Word.{Word}
use Rattle.hx_print.specs.declared.Word.TheVariants as words
use Rattle.hx_sim.specs.Words.{word_for, is_first_of, is_at, is_call_of, step_on, plan_and_send}

no_idle_dispatch : (plan : Option Plan) → stage_before_dispatch plan ≡ stages.Idle → ⊥
no_idle_dispatch None e = cc
no_idle_dispatch (Some plan) e = cc

-- an idle turn has no call left, and one that is under way has one
pub idle_at : (x : Controller) (calls : List Call) → stage_at x calls ≡ stages.Idle → calls ≡ []
idle_at x [] e = refl
idle_at x (Send ∷ rest) e = absurd (no_idle_dispatch x.plan e)
idle_at x _ e = cc

busy_at : (x : Controller) (calls : List Call) → (stage_at x calls ≡ stages.Idle → ⊥) → (v : Voice) (k : ControllerId) (f : State → Run (Option PassOutcome)) (y : State)
    → (if_under_way calls f y ≡ f y) × (begin_if_idle v k calls y ≡ gives y None)
busy_at x [] other v k f y = absurd (other refl)
busy_at x (call ∷ rest) other v k f y = (refl, refl)

-- what is done where it is idle, and where it is under way
pub begin_idle : (v : Voice) (k : ControllerId) (x : State) → stage (controller_of x.world k) ≡ stages.Idle → begin_if_idle v k (left_of x k) x ≡ step v k x
begin_idle v k x e = ap (λ (calls : List Call). begin_if_idle v k calls x) (idle_at (controller_of x.world k) (left_of x k) e)

pub begin_busy : (v : Voice) (k : ControllerId) (x : State) → (stage (controller_of x.world k) ≡ stages.Idle → ⊥) → begin_if_idle v k (left_of x k) x ≡ gives x None
begin_busy v k x other = (busy_at (controller_of x.world k) (left_of x k) other v k (λ z. step v k z) x).1

pub step_on_idle : (v : Voice) (k : ControllerId) (x : State) → stage (controller_of x.world k) ≡ stages.Idle → step_on v k x ≡ gives x None
step_on_idle v k x e = ap (λ (calls : List Call). if_under_way calls (λ z. step v k z) x) (idle_at (controller_of x.world k) (left_of x k) e)

pub step_on_busy : (v : Voice) (k : ControllerId) (x : State) → (stage (controller_of x.world k) ≡ stages.Idle → ⊥) → step_on v k x ≡ step v k x
step_on_busy v k x other = (busy_at (controller_of x.world k) (left_of x k) other v k (λ z. step v k z) x).0

pub under_way : (v : Voice) (k : ControllerId) (x : State) (f : State → Run (Option PassOutcome)) → (stage (controller_of x.world k) ≡ stages.Idle → ⊥) → if_under_way (left_of x k) f x ≡ f x
under_way v k x f other = (busy_at (controller_of x.world k) (left_of x k) other v k f x).0

-- whether the reads before the ideals are passed over
abbrev passes_over : Stage → ℕ → Bool
passes_over stages.Ideals shown = shown == 0
passes_over _ shown = false

not_over : (stage : Stage) (shown : ℕ) → (stage ≡ stages.Ideals → ⊥) → passes_over stage shown ≡ false
not_over stages.Ideals shown other = absurd (other refl)
not_over _ shown other = refl

-- what a stage tells of the next call
pub record TellsNext (stage : Stage) (calls : List Call) : Type 0 where
  pub word : word_for stage ≡ word_of calls
  pub begin : is_first_of (is_call_of words.Begin) calls ≡ is_at words.Begin stage
  pub live : is_first_of (is_call_of words.Live) calls ≡ is_at words.Live stage
  pub mail : is_first_of (is_call_of words.Mail) calls ≡ is_at words.Mail stage
  pub states : is_first_of (is_call_of words.States) calls ≡ is_at words.States stage
  pub ideals : is_first_of (is_call_of words.Ideals) calls ≡ is_at words.Ideals stage
  pub send : is_first_of (is_call_of words.Send) calls ≡ is_at words.Send stage
  pub post : is_first_of (is_call_of words.Post) calls ≡ is_at words.Post stage
  pub over : (shown : ℕ) → is_nothing_shown calls shown ≡ passes_over stage shown

tells_dispatch : (plan : Option Plan) (rest : List Call) → TellsNext (stage_before_dispatch plan) (Send ∷ rest)
tells_dispatch None rest = record { word = refl; begin = refl; live = refl; mail = refl; states = refl; ideals = refl; send = refl; post = refl; over = λ shown. refl }
tells_dispatch (Some plan) rest = record { word = refl; begin = refl; live = refl; mail = refl; states = refl; ideals = refl; send = refl; post = refl; over = λ shown. refl }

pub tells_next : (x : Controller) (calls : List Call) → TellsNext (stage_at x calls) calls
tells_next x (Send ∷ rest) = tells_dispatch x.plan rest
tells_next x _ = record { word = refl; begin = refl; live = refl; mail = refl; states = refl; ideals = refl; send = refl; post = refl; over = λ shown. refl }

-- of each word
pub next_at : {stage : Stage} {calls : List Call} → TellsNext stage calls → (word : Word) → is_first_of (is_call_of word) calls ≡ is_at word stage
next_at t words.Begin = t.begin
next_at t words.Live = t.live
next_at t words.Mail = t.mail
next_at t words.States = t.states
next_at t words.Ideals = t.ideals
next_at t words.Send = t.send
next_at t words.Post = t.post

-- by the kind of the next call, what is done
pub first_is : (is_of : Call → Bool) (calls : List Call) (f otherwise : State → Deed) (x : State) → is_first_of is_of calls ≡ true → in_turn is_of calls f otherwise x ≡ f x
first_is is_of [] f otherwise x e = cc
first_is is_of (call ∷ rest) f otherwise x e = ap (λ (b : Bool). chosen b f otherwise x) e

pub first_is_not : (is_of : Call → Bool) (calls : List Call) (f otherwise : State → Deed) (x : State) → is_first_of is_of calls ≡ false → in_turn is_of calls f otherwise x ≡ otherwise x
first_is_not is_of [] f otherwise x e = refl
first_is_not is_of (call ∷ rest) f otherwise x e = ap (λ (b : Bool). chosen b f otherwise x) e

pub passed_over_at : (x : Controller) (calls : List Call) (shown : ℕ) → stage_at x calls ≡ stages.Ideals → is_nothing_shown calls shown ≡ (shown == 0)
passed_over_at x calls shown e = (tells_next x calls).over shown ∙ ap (λ stage. passes_over stage shown) e

pub not_passed_over_at : (x : Controller) (calls : List Call) (shown : ℕ) → (stage_at x calls ≡ stages.Ideals → ⊥) → is_nothing_shown calls shown ≡ false
not_passed_over_at x calls shown other = (tells_next x calls).over shown ∙ not_over (stage_at x calls) shown other

-- a call: of a dispatch without a plan, or any other
plans_or_not : (v : Voice) (k : ControllerId) (plan : Option Plan) (x : State) → stage_before_dispatch plan ≡ stages.Plan
    → go_on (make_plan v k plan x) (λ _ y. step_on v k y) ≡ plan_and_send v k x
plans_or_not v k None x e = refl
plans_or_not v k (Some plan) x e = cc

plan_at : (v : Voice) (k : ControllerId) (x : State) (calls : List Call) → stage_at (controller_of x.world k) calls ≡ stages.Plan → do_call_of v k calls x ≡ plan_and_send v k x
plan_at v k x (Send ∷ rest) e = plans_or_not v k (controller_of x.world k).plan x e
plan_at v k x _ e = cc

pub call_plans : (v : Voice) (k : ControllerId) (x : State) → stage (controller_of x.world k) ≡ stages.Plan → do_call v k x ≡ plan_and_send v k x
call_plans v k x e = plan_at v k x (left_of x k) e

planned : (v : Voice) (k : ControllerId) (plan : Option Plan) (x : State) (rest : List Call) → left_of x k ≡ Send ∷ rest → (stage_before_dispatch plan ≡ stages.Plan → ⊥)
    → go_on (make_plan v k plan x) (λ _ y. step_on v k y) ≡ step v k x
planned v k None x rest is other = absurd (other refl)
planned v k (Some plan) x rest is other = after_none (step_on v k x) ∙ ap (λ (calls : List Call). if_under_way calls (λ z. step v k z) x) is

step_at : (v : Voice) (k : ControllerId) (x : State) (calls : List Call) → left_of x k ≡ calls → (stage_at (controller_of x.world k) calls ≡ stages.Plan → ⊥) → do_call_of v k calls x ≡ step v k x
step_at v k x (Send ∷ rest) is other = planned v k (controller_of x.world k).plan x rest is other
step_at v k x _ is other = refl

pub call_steps : (v : Voice) (k : ControllerId) (x : State) → (stage (controller_of x.world k) ≡ stages.Plan → ⊥) → do_call v k x ≡ step v k x
call_steps v k x other = step_at v k x (left_of x k) refl other
