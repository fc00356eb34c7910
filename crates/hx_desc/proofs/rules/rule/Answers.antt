use Rattle.hx_forms.proofs.Chains.{reads_behind}
use Rattle.hx_desc.proofs.Stopped.{part_stopped, part_refused, found_behind}
use Rattle.hx_desc.proofs.rules.rule.Goals as goal

pub returns-in_err-transition : goal.returns-in_err-transition
returns-in_err-transition c =
    λ before.
    reads_behind _ _ _ _ c.in_ok-object.ensures
    (reads_behind _ _ _ _ c.in_ok-scope.ensures.read
    (reads_behind _ _ _ _ c.in_ok-limit.ensures.read
    (part_refused _ _ _ _ c.from_residual-in_err-transition.ensures.1 (c.in_err-transition.ensures _))))

pub returns-in_err-limit : goal.returns-in_err-limit
returns-in_err-limit c =
    λ before.
    reads_behind _ _ _ _ c.in_ok-object.ensures
    (reads_behind _ _ _ _ c.in_ok-scope.ensures.read
    (part_stopped _ _ _ _ _ c.from_residual-in_err-limit.ensures.1 c.in_err-limit.ensures.read))

pub returns-in_err-scope : goal.returns-in_err-scope
returns-in_err-scope c =
    λ before.
    reads_behind _ _ _ _ c.in_ok-object.ensures
    (part_stopped _ _ _ _ _ c.from_residual-in_err-scope.ensures.1 c.in_err-scope.ensures.read)

pub returns : goal.returns
returns c =
    λ before.
    found_behind _ _ _ _ c.in_ok-object.ensures
    (found_behind _ _ _ _ c.in_ok-scope.ensures.read
    (found_behind _ _ _ _ c.in_ok-limit.ensures.read
    (c.in_ok-transition.ensures _)))

pub returns-in_err-object : goal.returns-in_err-object
returns-in_err-object c =
    λ before.
    part_stopped _ _ _ _ _ c.from_residual.ensures.1 c.in_err-object.ensures
