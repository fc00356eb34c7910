use Rattle.std.proofs.Common.{arith}
use Rattle.std.proofs.lemmas.Grind.{common_steps, elements}
use Rattle.hx_model.proofs.Named.{place_after-le}
use Rattle.hx_forms.proofs.states.StateFormItemForm.read_next.Goals as goal

pub returns-clause-kept : goal.returns-clause-kept
returns-clause-kept c = grind (arith, elements)

pub returns-clause-read : goal.returns-clause-read
returns-clause-read c = grind (arith, elements)

pub returns-in_err-push-clause-read : goal.returns-in_err-push-clause-read
returns-in_err-push-clause-read c = grind (arith, common_steps)

pub returns-in_err-place-clause-kept : goal.returns-in_err-place-clause-kept
returns-in_err-place-clause-kept c = grind (arith, common_steps)

pub overflow_cast-place : goal.overflow_cast-place
overflow_cast-place c = omega (arith, c.in_ok-place.ensures.place, c.requires.1, place_after-le c.args.table.names c.as_str.result.now)

pub returns-in_err-bound-clause-kept : goal.returns-in_err-bound-clause-kept
returns-in_err-bound-clause-kept c = grind (arith, common_steps)

pub returns-in_err-object-clause-read : goal.returns-in_err-object-clause-read
returns-in_err-object-clause-read c = grind (arith, common_steps)

pub returns-in_err-object-clause-kept : goal.returns-in_err-object-clause-kept
returns-in_err-object-clause-kept c = grind (arith, common_steps)

pub returns-in_err-push-clause-kept : goal.returns-in_err-push-clause-kept
returns-in_err-push-clause-kept c = grind (arith, common_steps)

pub returns-in_err-place-clause-read : goal.returns-in_err-place-clause-read
returns-in_err-place-clause-read c = grind (arith, common_steps)

pub returns-in_err-bound-clause-read : goal.returns-in_err-bound-clause-read
returns-in_err-bound-clause-read c = grind (arith, common_steps)

pub returns-in_err-name-clause-read : goal.returns-in_err-name-clause-read
returns-in_err-name-clause-read c = grind (arith, common_steps)

pub returns-in_err-name-clause-kept : goal.returns-in_err-name-clause-kept
returns-in_err-name-clause-kept c = grind (arith, common_steps)
