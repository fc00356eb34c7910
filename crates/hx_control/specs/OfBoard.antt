-- Turns that a board's history tells.
use Rattle.std.specs.Prelude.{◌≡◌, ◌⊎◌, Bool, true, false, ◌==◌, List, [], ◌∷◌, ◌++◌, Option, None, Some}
use Rattle.hx_ids.specs.declared.ControllerId.{ControllerId}
use Rattle.hx_cluster.specs.declared.description.Spec.{Spec}
use Rattle.hx_cluster.specs.declared.planning.Plan.{Plan}
use Rattle.hx_cluster.specs.declared.happenings.Event.{Event}
use Rattle.hx_cluster.specs.declared.happenings.Event.TheVariants as events
use Rattle.hx_cluster.specs.Steps.{opening}
use Rattle.hx_cluster.specs.Events.{replay}
use Rattle.hx_pass.specs.Plans.{plan}
use Rattle.hx_pass.specs.Turns.{Send, Turn, idle_turn, is_first, turn_of}
use Rattle.hx_control.specs.Controllers.{Controller}
use Rattle.hx_control.specs.Steps.{Step, Calls, after_step}

-- a plan that was made is that of what the turn was shown, and its dispatch is next
abbrev pub IsPlanOf : Spec → Turn → Option Plan → Type 0
IsPlanOf spec t None = Unit {0}
IsPlanOf spec t (Some p) = (is_first Send t.left ≡ true) × (p ≡ plan spec.models spec.rules t.view)

-- a turn is idle, or it is the one in which the history leaves its controller: with the numbers of its last begin, what it was shown
-- since, and the calls that are left
pub record IsOfBoard (spec : Spec) (h : List Event) (k : ControllerId) (t : Turn) (made : Option Plan) : Type 0 where
  pub told : (t ≡ idle_turn) ⊎ (t ≡ turn_of spec k h)
  pub planned : IsPlanOf spec t made

abbrev pub OfBoard : Spec → List Event → Controller → Type 0
OfBoard spec h x = IsOfBoard spec h x.id x.turn x.plan

-- the calls that a step makes: one, or none where it makes the plan or is refused
abbrev pub calls_of : Step → List Event
calls_of (Calls e outcome) = e ∷ []
calls_of _ = []

-- a step of a turn of the board leaves one of the board as it then is
abbrev pub StepKeeps : Spec → List Event → Controller → Step → Type 0
StepKeeps spec h x step = OfBoard spec h x → OfBoard spec (h ++ calls_of step) (after_step (replay (opening spec) h) x step)

-- whether an event is a controller's own begin or call; any other leaves its turn one of the board
abbrev pub is_own : ControllerId → Event → Bool
is_own k (events.Begin j begun) = j.0 == k.0
is_own k (events.Live j pass) = j.0 == k.0
is_own k (events.Mail j pass s) = j.0 == k.0
is_own k (events.States j pass s) = j.0 == k.0
is_own k (events.Ideals j pass) = j.0 == k.0
is_own k (events.Dispatch j epoch pass proposals answer) = j.0 == k.0
is_own k (events.Post j epoch rows) = j.0 == k.0
is_own k _ = false
