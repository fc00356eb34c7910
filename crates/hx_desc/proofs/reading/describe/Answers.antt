use Rattle.hx_forms.proofs.Chains.{reads_behind, reads_stopped}
use Rattle.hx_desc.proofs.Room.{only_one}
use Rattle.hx_desc.proofs.reading.describe.Goals as goal

pub returns-in_err-object : goal.returns-in_err-object
returns-in_err-object c =
    reads_stopped _ _ _ _ c.from_residual.ensures.1 c.in_err-object.ensures

pub returns-in_err-required : goal.returns-in_err-required
returns-in_err-required c =
    reads_behind _ _ _ _ c.in_ok-object.ensures
    (reads_stopped _ _ _ _ c.from_residual-in_err-required.ensures.1 c.in_err-required.ensures.read)

pub returns-in_err-controllers : goal.returns-in_err-controllers
returns-in_err-controllers c =
    reads_behind _ _ _ _ c.in_ok-object.ensures
    (reads_behind _ _ _ _ c.in_ok-required.ensures.read
    (reads_stopped _ _ _ _ c.from_residual-in_err-controllers.ensures.1 c.in_err-controllers.ensures.read))

pub returns-in_err-timeout : goal.returns-in_err-timeout
returns-in_err-timeout c =
    reads_behind _ _ _ _ c.in_ok-object.ensures
    (reads_behind _ _ _ _ c.in_ok-required.ensures.read
    (reads_behind _ _ _ _ c.in_ok-controllers.ensures.read
    (reads_stopped _ _ _ _ c.from_residual-in_err-timeout.ensures.1 c.in_err-timeout.ensures.read)))

pub describe_rest-requires-clause-version : goal.describe_rest-requires-clause-version
describe_rest-requires-clause-version c =
    rw (only_one _ c.in_ok-required.ensures.known.0 c.in_ok-required.ensures.known.1) at c.in_ok-required.ensures.read
