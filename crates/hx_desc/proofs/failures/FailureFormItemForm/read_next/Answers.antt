use Rattle.hx_desc.proofs.Stopped.{refused}
use Rattle.hx_desc.proofs.failures.FailureFormItemForm.read_next.Goals as goal

pub returns-in_err-failure-clause-read : goal.returns-in_err-failure-clause-read
returns-in_err-failure-clause-read c = refused _ _ _ c.from_residual.ensures.1 (c.in_err-failure.ensures c.args.failures)

pub returns-clause-read : goal.returns-clause-read
returns-clause-read c = rw c.in_ok-push.ensures.ok (c.in_ok-failure.ensures c.args.failures)
