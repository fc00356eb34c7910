use Rattle.std.proofs.Common.{refl}
use Rattle.hx_forms.proofs.Chains.{reads_behind}
use Rattle.hx_desc.proofs.Stopped.{part_stopped, found_behind}
use Rattle.hx_desc.proofs.rules.read_transition.Goals as goal

pub returns-in_err-from : goal.returns-in_err-from
returns-in_err-from c =
    λ whole.
    part_stopped _ _ _ _ _ c.from_residual.ensures.1 c.in_err-from.ensures.read

pub returns-in_err-to : goal.returns-in_err-to
returns-in_err-to c =
    λ whole.
    reads_behind _ _ _ _ c.in_ok-from.ensures.read
    (part_stopped _ _ _ _ _ c.from_residual-in_err-to.ensures.1 c.in_err-to.ensures.read)

pub returns-in_err-transition : goal.returns-in_err-transition
returns-in_err-transition c =
    λ whole.
    reads_behind _ _ _ _ c.in_ok-from.ensures.read
    (reads_behind _ _ _ _ c.in_ok-to.ensures.read
    (part_stopped _ _ _ _ _ c.from_residual-in_err-transition.ensures.1 c.in_err-transition.ensures))

pub returns : goal.returns
returns c =
    λ whole.
    found_behind _ _ _ _ c.in_ok-from.ensures.read
    (found_behind _ _ _ _ c.in_ok-to.ensures.read
    (found_behind _ _ _ _ c.in_ok-transition.ensures
    refl))
