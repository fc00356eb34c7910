use Rattle.hx_desc.proofs.Stopped.{refused}
use Rattle.hx_desc.proofs.rules.RuleFormItemForm.read_next.Goals as goal

pub returns-in_err-rule-clause-read : goal.returns-in_err-rule-clause-read
returns-in_err-rule-clause-read c = refused _ _ _ c.from_residual.ensures.1 (c.in_err-rule.ensures c.args.rules)

pub returns-clause-read : goal.returns-clause-read
returns-clause-read c = rw c.in_ok-push.ensures.ok (c.in_ok-rule.ensures c.args.rules)
