-- A board's cluster is one that a legal history leads to.
use Rattle.hx_records.specs.Reached.{IsReached}
use Rattle.hx_board.specs.declared.board.Board.TheInside.{Inside}
use Rattle.hx_board.specs.Board.{IsBoard}

pub reached_of : (a : Inside) → IsBoard a → IsReached a.records
reached_of a b = record { spec = a.spec; history = a.history.entries.items; valid = b.valid; legal = b.legal; replays = b.replays }
