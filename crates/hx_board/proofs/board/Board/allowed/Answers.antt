use Rattle.std.proofs.Common.{arith}
use Rattle.std.proofs.lemmas.Grind.{common_steps}
use Rattle.hx_board.proofs.Growing.{room_of}
use Rattle.hx_board.proofs.Reaching.{reached_of}
use Rattle.hx_board.proofs.board.Board.allowed.Goals as goal

pub returns-in_default-step_weight-clause-refused : goal.returns-in_default-step_weight-clause-refused
returns-in_default-step_weight-clause-refused c = grind (arith, common_steps)

pub refuses-requires : goal.refuses-requires
refuses-requires c = record { numbered = (room_of c.self.inside c.self.invariant).ids; reached = reached_of c.self.inside c.self.invariant }

pub returns-in-Some-full-clause-refused : goal.returns-in-Some-full-clause-refused
returns-in-Some-full-clause-refused c = grind (arith, common_steps)

pub returns-in-None-clause-refused : goal.returns-in-None-clause-refused
returns-in-None-clause-refused c = grind (arith, common_steps)
