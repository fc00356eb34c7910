use Rattle.std.proofs.Common.{refl}
use Rattle.hx_forms.proofs.Chains.{reads_behind}
use Rattle.hx_desc.proofs.Stopped.{part_stopped, found_behind}
use Rattle.hx_desc.proofs.maps.entry.Goals as goal

pub returns-in_err-object : goal.returns-in_err-object
returns-in_err-object c =
    part_stopped _ _ _ _ _ c.from_residual.ensures.1 c.in_err-object.ensures

pub returns-in_err-instance : goal.returns-in_err-instance
returns-in_err-instance c =
    reads_behind _ _ _ _ c.in_ok-object.ensures
    (part_stopped _ _ _ _ _ c.from_residual-in_err-instance.ensures.1 c.in_err-instance.ensures.read)

pub returns-in_err-state : goal.returns-in_err-state
returns-in_err-state c =
    reads_behind _ _ _ _ c.in_ok-object.ensures
    (reads_behind _ _ _ _ c.in_ok-instance.ensures.read
    (part_stopped _ _ _ _ _ c.from_residual-in_err-state.ensures.1 c.in_err-state.ensures.read))

pub returns : goal.returns
returns c =
    found_behind _ _ _ _ c.in_ok-object.ensures
    (found_behind _ _ _ _ c.in_ok-instance.ensures.read
    (found_behind _ _ _ _ c.in_ok-state.ensures.read
    refl))
