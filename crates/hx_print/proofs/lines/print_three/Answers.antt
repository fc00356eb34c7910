use Rattle.hx_text.proofs.Printing.{puts_first, prints_err, prints_then}
use Rattle.hx_print.proofs.lines.print_three.Goals as goal

pub returns-in_err-print_two : goal.returns-in_err-print_two
returns-in_err-print_two c = prints_err _ _ _ _ c.from_residual.result c.from_residual.ensures.1 (puts_first _ _ _ _ c.in_err-print_two.ensures.err)

pub returns : goal.returns
returns c = prints_then _ _ _ _ _ _ c.in_ok-print_two.ensures.ok c.print_word.ensures
