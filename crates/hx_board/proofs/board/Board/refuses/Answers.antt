use Rattle.hx_board.proofs.Growing.{room_of}
use Rattle.hx_board.proofs.Reaching.{reached_of}
use Rattle.hx_board.proofs.board.Board.refuses.Goals as goal

pub refuses-requires : goal.refuses-requires
refuses-requires c = record { numbered = (room_of c.self.inside c.self.invariant).ids; reached = reached_of c.self.inside c.self.invariant }
