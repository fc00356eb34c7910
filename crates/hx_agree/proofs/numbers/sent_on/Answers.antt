use Rattle.std.proofs.Common.{arith}
use Rattle.hx_worlds.specs.Summaries.{sent_in}
use Rattle.hx_agree.proofs.Boards.{messages_fit, next_message_is, lent_fits, lent_next}
use Rattle.hx_agree.proofs.numbers.sent_on.Goals as goal

pub given-requires : goal.given-requires
given-requires c = lent_fits sent_in c.history.ensures.value (messages_fit c.args.board.now c.history.ensures.history (omega arith))

pub returns : goal.returns
returns c = lent_next sent_in c.history.ensures.value (next_message_is c.args.board.now c.history.ensures.history) c.given.ensures
