use Rattle.std.proofs.Common.{◌∷◌, [], length-append}
use Rattle.hx_desc.proofs.Stopped.{refused}
use Rattle.hx_desc.proofs.Room.{few_names, one_more_name}
use Rattle.hx_desc.proofs.resources.ResourceFormItemForm.read_next.Goals as goal

pub with_resource-requires-clause-few : goal.with_resource-requires-clause-few
with_resource-requires-clause-few c = few_names _ c.requires.0 c.requires.1

pub with_resource-requires-clause-new : goal.with_resource-requires-clause-new
with_resource-requires-clause-new c = rw c.as_str.ensures c.in_ok-one.ensures.new

pub returns-in_err-one-clause-read : goal.returns-in_err-one-clause-read
returns-in_err-one-clause-read c = refused _ _ _ c.from_residual.ensures.1 c.in_err-one.ensures.read

pub returns-clause-read : goal.returns-clause-read
returns-clause-read c = rw (c.in_ok-after.ensures, c.as_str.ensures) c.in_ok-one.ensures.read

pub returns-clause-kept : goal.returns-clause-kept
returns-clause-kept c = λ more kept. one_more_name _ _ more (rw c.in_ok-after.ensures (length-append c.args.table.names (c.as_str.result.now ∷ []))) kept
