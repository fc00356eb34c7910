-- A step that is taken keeps a turn of the board one of the board as it then is.
use Rattle.std.proofs.Common.{◌≡◌, Bool, true, false, List, ◌++◌, Option, refl, sym, subst, inl}
use Rattle.std.specs.Prelude.{Result, Ok, Err, if◌then◌else◌}
use Rattle.std.proofs.lemmas.List.{append-nil}
use Rattle.hx_cluster.specs.declared.description.Spec.{Spec}
use Rattle.hx_cluster.specs.declared.state.Cluster.{Cluster}
use Rattle.hx_cluster.specs.declared.happenings.Event.{Event}
use Rattle.hx_board.specs.Board.{Held, HasHistory}
use Rattle.hx_control.specs.declared.PassOutcome.{PassOutcome}
use Rattle.hx_control.specs.declared.ControlFault.{ControlFault}
use Rattle.hx_control.specs.Controllers.{Controller, idle_controller}
use Rattle.hx_control.specs.Steps.{Step, Calls, Plans, Refuses, step_of, after_step}
use Rattle.hx_control.specs.OfBoard.{OfBoard, calls_of}
use Rattle.hx_control.specs.Made.{board_after, ends_turn, Takes}
use Rattle.hx_control.proofs.KeepsTurns.{step_keeps}

history_after : (b : Held) (step : Step) → b.history ++ calls_of step ≡ (board_after b step).history
history_after b (Calls e outcome) = refl
history_after b (Plans p) = append-nil b.history
history_after b (Refuses fault) = append-nil b.history

after_fault_of : (spec : Spec) (h : List Event) (x : Controller) (ends : Bool) → OfBoard spec h x → OfBoard spec h (if ends then idle_controller x.id else x)
after_fault_of spec h x true of = record { told = inl refl; planned = tt }
after_fault_of spec h x false of = of

after_made : (b : Held) (x : Controller) → HasHistory b → OfBoard b.spec b.history x
    → OfBoard b.spec (board_after b (step_of b.spec b.cluster x)).history (after_step b.cluster x (step_of b.spec b.cluster x))
after_made b x told of =
    subst (λ (h : List Event). OfBoard b.spec h (after_step b.cluster x (step_of b.spec b.cluster x))) (history_after b (step_of b.spec b.cluster x))
    (subst (λ (c : Cluster). OfBoard b.spec (b.history ++ calls_of (step_of b.spec c x)) (after_step c x (step_of b.spec c x))) told.replays
    (step_keeps b.spec b.history x of))

keeps_on : (b d : Held) (x y : Controller) (result : Result (Option PassOutcome) ControlFault) → HasHistory b → Takes (step_of b.spec b.cluster x) b d x y result
    → OfBoard b.spec b.history x → OfBoard b.spec d.history y
keeps_on b d x y (Ok outcome) told takes of =
    subst (λ (v : Held). OfBoard b.spec v.history y) (sym takes.made.board)
    (subst (λ (v : Controller). OfBoard b.spec (board_after b (step_of b.spec b.cluster x)).history v) (sym takes.made.controller) (after_made b x told of))
keeps_on b d x y (Err fault) told takes of =
    subst (λ (v : Held). OfBoard b.spec v.history y) (sym takes.kept.0)
    (subst (λ (v : Controller). OfBoard b.spec b.history v) (sym takes.kept.1) (after_fault_of b.spec b.history x (ends_turn fault) of))

pub keeps_of_board : (spec : Spec) (b d : Held) (x y : Controller) (result : Result (Option PassOutcome) ControlFault) → HasHistory b → b.spec ≡ spec
    → Takes (step_of spec b.cluster x) b d x y result → OfBoard spec b.history x → OfBoard spec d.history y
keeps_of_board spec b d x y result told same =
    subst (λ (s : Spec). Takes (step_of s b.cluster x) b d x y result → OfBoard s b.history x → OfBoard s d.history y) same (keeps_on b d x y result told)
