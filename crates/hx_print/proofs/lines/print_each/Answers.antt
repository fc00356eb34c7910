use Rattle.hx_text.proofs.Printing.{prints_err}
use Rattle.hx_print.specs.Tokens.{token_word}
use Rattle.hx_print.proofs.Printing.{puts_word}
use Rattle.hx_print.proofs.lines.print_each.Goals as goal

pub returns-in_err-print_word : goal.returns-in_err-print_word
returns-in_err-print_word c =
    prints_err _ _ _ _ c.from_residual.result c.from_residual.ensures.1
    (puts_word token_word c.args.words.now c.loop-word.word-index _ _ c.loop-word.page _ c.loop-word-test.true c.loop-word.invariant c.in_err-print_word.ensures.err)
