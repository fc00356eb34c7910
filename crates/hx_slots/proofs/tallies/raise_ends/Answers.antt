use Rattle.std.proofs.Common.{arith}
use Rattle.std.proofs.lemmas.Grind.{common_steps}
use Rattle.hx_slots.proofs.tallies.raise_ends.Goals as goal

pub returns-then-from-to-clause-ok : goal.returns-then-from-to-clause-ok
returns-then-from-to-clause-ok c = grind (arith, common_steps)

pub returns-then-from-to-clause-err : goal.returns-then-from-to-clause-err
returns-then-from-to-clause-err c = grind (arith, common_steps)

pub returns : goal.returns
returns c = grind (arith, common_steps)

pub returns-in_err-raise_end-clause-ok : goal.returns-in_err-raise_end-clause-ok
returns-in_err-raise_end-clause-ok c = grind (arith, common_steps)

pub returns-in-Err-clause-err : goal.returns-in-Err-clause-err
returns-in-Err-clause-err c = grind (arith, common_steps)

pub returns-in_err-raise_end-clause-err : goal.returns-in_err-raise_end-clause-err
returns-in_err-raise_end-clause-err c = grind (arith, common_steps)

pub returns-in-Err-clause-ok : goal.returns-in-Err-clause-ok
returns-in-Err-clause-ok c = grind (arith, common_steps)
