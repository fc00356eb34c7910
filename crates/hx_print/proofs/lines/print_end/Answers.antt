use Rattle.hx_text.proofs.Printing.{puts_first, prints_err, prints_or_none, prints_then}
use Rattle.hx_print.proofs.lines.print_end.Goals as goal

pub returns-in_err-print_words : goal.returns-in_err-print_words
returns-in_err-print_words c = prints_err _ _ _ _ c.from_residual.result c.from_residual.ensures.1 (puts_first _ _ _ _ c.in_err-print_words.ensures.err)

pub returns : goal.returns
returns c = prints_then _ _ _ _ _ _ c.in_ok-print_words.ensures.ok (prints_or_none _ _ _ c.push_byte.result c.push_byte.ensures.ok c.push_byte.ensures.err)
