use Rattle.std.proofs.Common.{arith}
use Rattle.std.proofs.lemmas.Grind.{common_steps}
use Rattle.hx_board.proofs.board.Board.full.Goals as goal

pub returns-then-self-more : goal.returns-then-self-more
returns-then-self-more c = grind (arith, common_steps)

pub returns-else-self-more : goal.returns-else-self-more
returns-else-self-more c = grind (arith, common_steps)
