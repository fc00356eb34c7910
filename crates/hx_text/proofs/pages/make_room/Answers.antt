use Rattle.std.proofs.Common.{arith}
use Rattle.std.proofs.lemmas.Grind.{common_steps}
use Rattle.hx_text.proofs.pages.make_room.Goals as goal

pub returns-then-additional-le-BLOCK-clause-kept : goal.returns-then-additional-le-BLOCK-clause-kept
returns-then-additional-le-BLOCK-clause-kept c = grind (arith, common_steps)

pub returns-then-additional-le-BLOCK-clause-grown : goal.returns-then-additional-le-BLOCK-clause-grown
returns-then-additional-le-BLOCK-clause-grown c = grind (arith, common_steps)

pub returns-else-additional-le-BLOCK-clause-kept : goal.returns-else-additional-le-BLOCK-clause-kept
returns-else-additional-le-BLOCK-clause-kept c = grind (arith, common_steps)

pub returns-else-additional-le-BLOCK-clause-grown : goal.returns-else-additional-le-BLOCK-clause-grown
returns-else-additional-le-BLOCK-clause-grown c = grind (arith, common_steps)
