use Rattle.std.proofs.Common.{arith}
use Rattle.hx_worlds.specs.Summaries.{joined_in}
use Rattle.hx_agree.proofs.Boards.{joins_fit, next_session_is, lent_fits, lent_next}
use Rattle.hx_agree.proofs.numbers.joined_on.Goals as goal

pub given-requires : goal.given-requires
given-requires c = lent_fits joined_in c.history.ensures.value (joins_fit c.args.board.now c.history.ensures.history (omega arith))

pub returns : goal.returns
returns c = lent_next joined_in c.history.ensures.value (next_session_is c.args.board.now c.history.ensures.history) c.given.ensures
