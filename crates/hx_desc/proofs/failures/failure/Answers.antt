use Rattle.std.proofs.Common.{refl}
use Rattle.hx_forms.proofs.Chains.{reads_behind}
use Rattle.hx_desc.proofs.Stopped.{part_stopped, found_behind}
use Rattle.hx_desc.proofs.failures.failure.Goals as goal

pub returns-in_err-object : goal.returns-in_err-object
returns-in_err-object c =
    λ before.
    part_stopped _ _ _ _ _ c.from_residual.ensures.1 c.in_err-object.ensures

pub returns-in_err-instance : goal.returns-in_err-instance
returns-in_err-instance c =
    λ before.
    reads_behind _ _ _ _ c.in_ok-object.ensures
    (part_stopped _ _ _ _ _ c.from_residual-in_err-instance.ensures.1 c.in_err-instance.ensures.read)

pub returns-in_err-part : goal.returns-in_err-part
returns-in_err-part c =
    λ before.
    reads_behind _ _ _ _ c.in_ok-object.ensures
    (reads_behind _ _ _ _ c.in_ok-instance.ensures.read
    (part_stopped _ _ _ _ _ c.from_residual-in_err-part.ensures.1 c.in_err-part.ensures))

pub returns-in_err-turn : goal.returns-in_err-turn
returns-in_err-turn c =
    λ before.
    reads_behind _ _ _ _ c.in_ok-object.ensures
    (reads_behind _ _ _ _ c.in_ok-instance.ensures.read
    (reads_behind _ _ _ _ c.in_ok-part.ensures
    (part_stopped _ _ _ _ _ c.from_residual-in_err-turn.ensures.1 c.in_err-turn.ensures)))

pub returns : goal.returns
returns c =
    λ before.
    found_behind _ _ _ _ c.in_ok-object.ensures
    (found_behind _ _ _ _ c.in_ok-instance.ensures.read
    (found_behind _ _ _ _ c.in_ok-part.ensures
    (found_behind _ _ _ _ c.in_ok-turn.ensures
    refl)))
