use Rattle.hx_board.proofs.Reaching.{reached_of}
use Rattle.hx_board.proofs.board.Board.shown.Goals as goal

pub read_live-requires : goal.read_live-requires
read_live-requires c = reached_of c.self.inside c.self.invariant
