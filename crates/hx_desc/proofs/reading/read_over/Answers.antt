use Rattle.std.proofs.Common.{refl}
use Rattle.hx_forms.proofs.Chains.{reads_behind}
use Rattle.hx_desc.proofs.Stopped.{part_stopped, found_behind}
use Rattle.hx_desc.proofs.reading.read_over.Goals as goal

pub returns-in_err-rules : goal.returns-in_err-rules
returns-in_err-rules c =
    λ whole.
    part_stopped _ _ _ _ _ c.from_residual.ensures.1 c.in_err-rules.ensures

pub returns : goal.returns
returns c =
    λ whole.
    found_behind _ _ _ _ c.in_ok-rules.ensures
    (found_behind _ _ _ _ c.in_ok-table.ensures
    (found_behind _ _ _ _ c.in_ok-failures.ensures
    refl))

pub returns-in_err-failures : goal.returns-in_err-failures
returns-in_err-failures c =
    λ whole.
    reads_behind _ _ _ _ c.in_ok-rules.ensures
    (reads_behind _ _ _ _ c.in_ok-table.ensures
    (part_stopped _ _ _ _ _ c.from_residual-in_err-failures.ensures.1 c.in_err-failures.ensures))

pub returns-in_err-table : goal.returns-in_err-table
returns-in_err-table c =
    λ whole.
    reads_behind _ _ _ _ c.in_ok-rules.ensures
    (part_stopped _ _ _ _ _ c.from_residual-in_err-table.ensures.1 c.in_err-table.ensures)
