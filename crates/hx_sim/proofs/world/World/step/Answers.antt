use Rattle.hx_scene.proofs.Reaching.{does_err}
use Rattle.hx_sim.proofs.Said.{step_fails, step_told, step_tell_fails, step_noted, step_note_fails}
use Rattle.hx_sim.proofs.world.World.step.Goals as goal

pub returns-in_err-outcome : goal.returns-in_err-outcome
returns-in_err-outcome g c =
    rw (← c.self.view_is) (does_err _ _ _ _ _ _ _ _ c.from_residual.ensures.1 (step_fails c.args.voice c.args.controller _ _ c.board.ensures.scene _ _ _ c.in_err-outcome.ensures))

pub returns-in_err-tell_outcome-in-Ok : goal.returns-in_err-tell_outcome-in-Ok
returns-in_err-tell_outcome-in-Ok g c =
    rw (← c.self.view_is) (does_err _ _ _ _ _ _ _ _ c.from_residual-in_err-tell_outcome-in-Ok.ensures.1
    (step_tell_fails c.args.voice c.args.controller _ _ c.board.ensures.scene _ _ c.in-Ok.is _ _ c.in_ok-outcome.ensures _ _ _ c.in_err-tell_outcome-in-Ok.ensures))

pub returns-in_ok-tell_outcome-in-Ok : goal.returns-in_ok-tell_outcome-in-Ok
returns-in_ok-tell_outcome-in-Ok g c =
    rw (← c.self.view_is) (step_told c.args.voice c.args.controller _ _ c.board.ensures.scene _ _ c.in-Ok.is _ _ c.in_ok-outcome.ensures _ _ c.in_ok-tell_outcome-in-Ok.ensures)

pub returns-in_ok-note_fault-in-Err : goal.returns-in_ok-note_fault-in-Err
returns-in_ok-note_fault-in-Err g c =
    rw (← c.self.view_is) (step_noted c.args.voice c.args.controller _ _ c.board.ensures.scene _ _ c.in-Err.is _ _ c.in_ok-outcome.ensures _ _ c.in_ok-note_fault-in-Err.ensures)

pub returns-in_err-note_fault-in-Err : goal.returns-in_err-note_fault-in-Err
returns-in_err-note_fault-in-Err g c =
    rw (← c.self.view_is) (does_err _ _ _ _ _ _ _ _ c.from_residual-in_err-note_fault-in-Err.ensures.1
    (step_note_fails c.args.voice c.args.controller _ _ c.board.ensures.scene _ _ c.in-Err.is _ _ c.in_ok-outcome.ensures _ _ _ c.in_err-note_fault-in-Err.ensures))
