use Rattle.std.proofs.Common.{arith}
use Rattle.std.proofs.lemmas.Grind.{common_steps}
use Rattle.hx_forms.proofs.transitions.TransitionFormItemForm.read_next.Goals as goal

pub returns-in_err-text-clause-read : goal.returns-in_err-text-clause-read
returns-in_err-text-clause-read c = grind (arith, common_steps)

pub returns-in_err-text-clause-kept : goal.returns-in_err-text-clause-kept
returns-in_err-text-clause-kept c = grind (arith, common_steps)

pub returns-in_default-clause-read : goal.returns-in_default-clause-read
returns-in_default-clause-read c = grind (arith, common_steps)

pub returns-in_default-clause-kept : goal.returns-in_default-clause-kept
returns-in_default-clause-kept c = grind (arith, common_steps)

pub returns-then-is_error-clause-read : goal.returns-then-is_error-clause-read
returns-then-is_error-clause-read c = grind (arith, common_steps)

pub returns-then-is_error-clause-kept : goal.returns-then-is_error-clause-kept
returns-then-is_error-clause-kept c = grind (arith, common_steps)

pub returns-in_default-source-clause-read : goal.returns-in_default-source-clause-read
returns-in_default-source-clause-read c = grind (arith, common_steps)

pub returns-in_default-source-clause-kept : goal.returns-in_default-source-clause-kept
returns-in_default-source-clause-kept c = grind (arith, common_steps)

pub returns-in_default-target-clause-read : goal.returns-in_default-target-clause-read
returns-in_default-target-clause-read c = grind (arith, common_steps)

pub returns-in_default-target-clause-kept : goal.returns-in_default-target-clause-kept
returns-in_default-target-clause-kept c = grind (arith, common_steps)

pub returns-then-eq-clause-read : goal.returns-then-eq-clause-read
returns-then-eq-clause-read c = grind (arith, common_steps)

pub returns-then-eq-clause-kept : goal.returns-then-eq-clause-kept
returns-then-eq-clause-kept c = grind (arith, common_steps)

pub returns-then-lists-clause-read : goal.returns-then-lists-clause-read
returns-then-lists-clause-read c = grind (arith, common_steps)

pub returns-then-lists-clause-kept : goal.returns-then-lists-clause-kept
returns-then-lists-clause-kept c = grind (arith, common_steps)

pub returns-in_err-push-clause-read : goal.returns-in_err-push-clause-read
returns-in_err-push-clause-read c = grind (arith, common_steps)

pub returns-in_err-push-clause-kept : goal.returns-in_err-push-clause-kept
returns-in_err-push-clause-kept c = grind (arith, common_steps)

pub returns-clause-read : goal.returns-clause-read
returns-clause-read c = grind (arith, common_steps)

pub returns-clause-kept : goal.returns-clause-kept
returns-clause-kept c = grind (arith, common_steps)
