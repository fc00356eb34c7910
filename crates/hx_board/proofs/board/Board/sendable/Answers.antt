use Rattle.std.proofs.Common.{arith}
use Rattle.std.proofs.lemmas.Grind.{common_steps}
use Rattle.hx_board.proofs.board.Board.sendable.Goals as goal

pub returns-in-Some-full-clause-refused : goal.returns-in-Some-full-clause-refused
returns-in-Some-full-clause-refused c = grind (arith, common_steps)
