use Rattle.std.proofs.Common.{arith}
use Rattle.std.proofs.lemmas.Grind.{common_steps, elements}
use Rattle.hx_forms.proofs.Sizes.{longer_names, longer_list, room_left}
use Rattle.hx_forms.proofs.models.ModelFormItemForm.read_next.Goals as goal

pub returns-clause-read : goal.returns-clause-read
returns-clause-read c = grind (arith, elements)

pub returns-in_err-push-clause-read : goal.returns-in_err-push-clause-read
returns-in_err-push-clause-read c = grind (arith, common_steps)

pub returns-clause-kept : goal.returns-clause-kept
returns-clause-kept c =
    λ more kept.
    let names = longer_names c.args.table.names c.intern.new.self c.in_ok-name.name c.as_str.result.now c.as_str.ensures c.in_ok-intern.ensures.names c.in_ok-name.ensures.known in
    let models = longer_list c.args.table.models c.push.new.self c.in_ok-checked.field-0 c.in_ok-push.ensures.ok in
    room_left _ _ _ _ _ _ more c.in_ok-listed.ensures.known names models kept

pub returns-in_err-initial-clause-read : goal.returns-in_err-initial-clause-read
returns-in_err-initial-clause-read c = grind (arith, common_steps)

pub returns-in_err-intern-clause-read : goal.returns-in_err-intern-clause-read
returns-in_err-intern-clause-read c = grind (arith, common_steps)

pub returns-in_err-name-clause-kept : goal.returns-in_err-name-clause-kept
returns-in_err-name-clause-kept c = grind (arith, common_steps)

pub returns-in_err-checked-clause-read : goal.returns-in_err-checked-clause-read
returns-in_err-checked-clause-read c = grind (arith, common_steps)

pub returns-in_err-listed-clause-kept : goal.returns-in_err-listed-clause-kept
returns-in_err-listed-clause-kept c = grind (arith, common_steps)

pub returns-in_err-object-clause-kept : goal.returns-in_err-object-clause-kept
returns-in_err-object-clause-kept c = grind (arith, common_steps)

pub returns-in_err-object-clause-read : goal.returns-in_err-object-clause-read
returns-in_err-object-clause-read c = grind (arith, common_steps)

pub returns-in_err-checked-clause-kept : goal.returns-in_err-checked-clause-kept
returns-in_err-checked-clause-kept c = grind (arith, common_steps)

pub returns-in_err-initial-clause-kept : goal.returns-in_err-initial-clause-kept
returns-in_err-initial-clause-kept c = grind (arith, common_steps)

pub returns-in_err-intern-clause-kept : goal.returns-in_err-intern-clause-kept
returns-in_err-intern-clause-kept c = grind (arith, common_steps)

pub returns-in_err-name-clause-read : goal.returns-in_err-name-clause-read
returns-in_err-name-clause-read c = grind (arith, common_steps)

pub returns-in_err-push-clause-kept : goal.returns-in_err-push-clause-kept
returns-in_err-push-clause-kept c = grind (arith, common_steps)

pub returns-in_err-listed-clause-read : goal.returns-in_err-listed-clause-read
returns-in_err-listed-clause-read c = grind (arith, common_steps)
