-- A step of a controller's turn by itself: its outcome, or why it was refused.
use Rattle.std.specs.Prelude.{◌≡◌, [], Option, None, Result, Ok, Err, slice_set}
use Rattle.hx_control.specs.declared.PassOutcome.{PassOutcome}
use Rattle.hx_control.specs.declared.ControlFault.{ControlFault}
use Rattle.hx_control.specs.Controllers.{Controller}
use Rattle.hx_control.specs.Made.{Takes}
use Rattle.hx_control.specs.Steps.{Step, Calls, Plans, Refuses, step_of, after_step}
use Rattle.hx_ids.specs.declared.ControllerId.{ControllerId}
use Rattle.hx_cluster.specs.declared.happenings.Event.{Event}
use Rattle.hx_board.specs.Board.{Held}
use Rattle.hx_print.specs.declared.roll.Roll.{Roll}
use Rattle.hx_print.specs.Texts.{event_text, entry_text}
use Rattle.hx_worlds.specs.World.{State, controller_of, with_controller}
use Rattle.hx_worlds.specs.Runs.{Run, gives, and_then, happen}
use Rattle.hx_scene.specs.Scenes.{SceneState, world_of}

abbrev pub advanced : Controller → Step → State → Run (Result (Option PassOutcome) ControlFault)
advanced k (Calls e outcome) x =
    and_then (happen e x) (λ y. gives (with_controller (after_step x.world.cluster k (Calls e outcome)) y) (Ok outcome))
advanced k (Plans p) x = gives (with_controller (after_step x.world.cluster k (Plans p)) x) (Ok None)
advanced k (Refuses fault) x = gives (with_controller (after_step x.world.cluster k (Refuses fault)) x) (Err fault)

abbrev pub advance_controller : Controller → State → Run (Result (Option PassOutcome) ControlFault)
advance_controller k x = advanced k (step_of x.world.spec x.world.cluster k) x

abbrev pub advance : ControllerId → State → Run (Result (Option PassOutcome) ControlFault)
advance k x = advance_controller (controller_of x.world k) x

-- what the log lines need of an event that isn't a step of the cluster or a dispatch: nothing
abbrev pub no_roll : Roll
no_roll = record { resources = []; live = [] }

-- a controller took the next step of its turn: the board and the controller are as the step left them, and all else as it was
abbrev pub with_turn : SceneState → ControllerId → Held → Controller → SceneState
with_turn s k b y = record s { board = b; controllers = slice_set s.controllers k.0 y }

pub record IsStepped (s u : SceneState) (k : ControllerId) (result : Result (Option PassOutcome) ControlFault) : Type 0 where
  pub board : Held
  pub turn : Controller
  pub takes : Takes (step_of s.spec s.board.cluster (controller_of (world_of s) k)) s.board board (controller_of (world_of s) k) turn result
  pub left : u ≡ with_turn s k board turn

-- a roll serves the next call of a controller's turn
abbrev pub IsRollFor : SceneState → ControllerId → Roll → Type 0
IsRollFor s k roll =
    (e : Event) (o : Option PassOutcome) → step_of s.spec s.board.cluster (controller_of (world_of s) k) ≡ Calls e o
    → event_text s.spec roll e ≡ entry_text s.spec s.board.cluster e
