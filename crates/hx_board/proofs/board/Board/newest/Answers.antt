use Rattle.hx_board.proofs.Growing.{room_of}
use Rattle.hx_board.proofs.board.Board.newest.Goals as goal

pub newest-requires : goal.newest-requires
newest-requires c = (room_of c.self.inside c.self.invariant).ids
