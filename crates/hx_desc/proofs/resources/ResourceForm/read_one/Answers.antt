use Rattle.hx_forms.proofs.Chains.{reads_behind}
use Rattle.hx_desc.proofs.Stopped.{part_stopped, part_refused, found_behind}
use Rattle.hx_desc.proofs.resources.ResourceForm.read_one.Goals as goal

pub returns-in_err-object-clause-read : goal.returns-in_err-object-clause-read
returns-in_err-object-clause-read c =
    part_stopped _ _ _ _ _ c.from_residual.ensures.1 c.in_err-object.ensures

pub returns-in_err-name-clause-read : goal.returns-in_err-name-clause-read
returns-in_err-name-clause-read c =
    reads_behind _ _ _ _ c.in_ok-object.ensures
    (part_stopped _ _ _ _ _ c.from_residual-in_err-name.ensures.1 c.in_err-name.ensures.read)

pub returns-in_err-both-clause-read : goal.returns-in_err-both-clause-read
returns-in_err-both-clause-read c =
    reads_behind _ _ _ _ c.in_ok-object.ensures
    (reads_behind _ _ _ _ c.in_ok-name.ensures.read
    (part_refused _ _ _ _ c.from_residual-in_err-both.ensures.1 (c.in_err-both.ensures _)))

pub returns-clause-read : goal.returns-clause-read
returns-clause-read c =
    found_behind _ _ _ _ c.in_ok-object.ensures
    (found_behind _ _ _ _ c.in_ok-name.ensures.read
    (c.in_ok-both.ensures _))
