use Rattle.hx_forms.proofs.Chains.{reads_behind, reads_stopped}
use Rattle.hx_desc.proofs.Stopped.{refused, found_behind}
use Rattle.hx_desc.proofs.reading.describe_rest.Goals as goal

pub returns-in_err-instances : goal.returns-in_err-instances
returns-in_err-instances c =
    reads_behind _ _ _ _ c.requires.object
    (reads_behind _ _ _ _ c.requires.version
    (reads_behind _ _ _ _ c.requires.controllers
    (reads_behind _ _ _ _ c.requires.timeout
    (reads_stopped _ _ _ _ c.from_residual.ensures.1 c.in_err-instances.ensures.read))))

pub returns-in_err-models : goal.returns-in_err-models
returns-in_err-models c =
    reads_behind _ _ _ _ c.requires.object
    (reads_behind _ _ _ _ c.requires.version
    (reads_behind _ _ _ _ c.requires.controllers
    (reads_behind _ _ _ _ c.requires.timeout
    (reads_behind _ _ _ _ c.in_ok-instances.ensures.read
    (reads_stopped _ _ _ _ c.from_residual-in_err-models.ensures.1 c.in_err-models.ensures.read)))))

pub returns-in_err-over : goal.returns-in_err-over
returns-in_err-over c =
    reads_behind _ _ _ _ c.requires.object
    (reads_behind _ _ _ _ c.requires.version
    (reads_behind _ _ _ _ c.requires.controllers
    (reads_behind _ _ _ _ c.requires.timeout
    (reads_behind _ _ _ _ c.in_ok-instances.ensures.read
    (reads_behind _ _ _ _ c.in_ok-models.ensures.read
    (refused _ _ _ c.from_residual-in_err-over.ensures.1 (c.in_err-over.ensures _)))))))

pub returns : goal.returns
returns c =
    found_behind _ _ _ _ c.requires.object
    (found_behind _ _ _ _ c.requires.version
    (found_behind _ _ _ _ c.requires.controllers
    (found_behind _ _ _ _ c.requires.timeout
    (found_behind _ _ _ _ c.in_ok-instances.ensures.read
    (found_behind _ _ _ _ c.in_ok-models.ensures.read
    (c.in_ok-over.ensures _))))))
