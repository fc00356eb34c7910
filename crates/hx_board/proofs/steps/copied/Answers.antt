use Rattle.std.proofs.Common.{arith}
use Rattle.std.proofs.lemmas.Grind.{elements}
use Rattle.hx_board.proofs.steps.copied.Goals as goal

pub returns : goal.returns
returns c = grind (arith, elements)
