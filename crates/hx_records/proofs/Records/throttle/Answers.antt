use Rattle.std.proofs.Common.{arith}
use Rattle.std.proofs.lemmas.Grind.{common_steps, elements}
use Rattle.hx_records.proofs.Records.throttle.Goals as goal

pub returns-then-rule-load : goal.returns-then-rule-load
returns-then-rule-load c = grind (arith, common_steps)

pub loop-place-preserved : goal.loop-place-preserved
loop-place-preserved c = grind (arith, common_steps)

pub returns : goal.returns
returns c = grind (arith, common_steps)

pub load-load-requires-clause-rule : goal.load-load-requires-clause-rule
load-load-requires-clause-rule c = grind (arith, elements)
