-- What a controller's step makes of it and of the board.
use Rattle.std.specs.Prelude.{◌≡◌, Bool, true, false, Option, None, Some, Result, IfOk, IfErr, OnErr, if◌then◌else◌}
use Rattle.hx_lists.specs.Answers.{RefusedBy}
use Rattle.hx_cluster.specs.Weight.{weight_of}
use Rattle.hx_board.specs.Board.{Held, happened}
use Rattle.hx_board.specs.Refusals.{full}
use Rattle.hx_control.specs.declared.PassOutcome.{PassOutcome}
use Rattle.hx_control.specs.declared.ControlFault.{ControlFault}
use Rattle.hx_control.specs.declared.ControlFault.TheVariants as faults
use Rattle.hx_control.specs.Controllers.{Controller, idle_controller}
use Rattle.hx_control.specs.Steps.{Step, Calls, Plans, Refuses, after_step}

-- why a step isn't made: by its own refusal; or the history has no room for its call
abbrev pub step_fault : Held → Step → Option ControlFault
step_fault b (Calls e outcome) = full b (weight_of e) faults.HistoryFull
step_fault b (Plans p) = None
step_fault b (Refuses fault) = Some fault

-- the outcome of a step, and the board after it
abbrev pub outcome_in : Step → Option PassOutcome
outcome_in (Calls e outcome) = outcome
outcome_in _ = None

abbrev pub board_after : Held → Step → Held
board_after b (Calls e outcome) = happened b e
board_after b _ = b

-- a step is made: its answer, the board and the controller are those that it says
pub record IsMade (step : Step) (b d : Held) (x y : Controller) (outcome : Option PassOutcome) : Type 0 where
  pub answer : outcome ≡ outcome_in step
  pub board : d ≡ board_after b step
  pub controller : y ≡ after_step b.cluster x step

-- a step is tried: it is refused exactly where it says, or for want of memory, and then nothing changes
pub record Tries (step : Step) (b d : Held) (x y : Controller) (result : Result (Option PassOutcome) ControlFault) : Type 0 where
  pub refused : RefusedBy faults.OutOfMemory (step_fault b step) result
  pub made : IfOk result (IsMade step b d x y)
  pub kept : OnErr result ((d ≡ b) × (y ≡ x))

-- a fault ends the turn, unless it is for want of memory or of room
abbrev pub ends_turn : ControlFault → Bool
ends_turn (faults.HistoryFull weight) = false
ends_turn faults.OutOfMemory = false
ends_turn _ = true

abbrev pub after_fault : Controller → ControlFault → Controller
after_fault x fault = if ends_turn fault then idle_controller x.id else x

-- a step is taken: it is tried, and a fault of its own ends the turn
pub record Takes (step : Step) (b d : Held) (x y : Controller) (result : Result (Option PassOutcome) ControlFault) : Type 0 where
  pub refused : RefusedBy faults.OutOfMemory (step_fault b step) result
  pub made : IfOk result (IsMade step b d x y)
  pub kept : IfErr result (λ fault. (d ≡ b) × (y ≡ after_fault x fault))
