use Rattle.hx_text.proofs.Printing.{puts_first, prints_err, prints_then}
use Rattle.hx_print.proofs.log.print_tick.Goals as goal

pub returns-in_err-print_line : goal.returns-in_err-print_line
returns-in_err-print_line c =
    prints_err _ _ _ _ c.from_residual.result c.from_residual.ensures.1 (puts_first _ _ _ _ c.in_err-print_line.ensures.err)

pub returns : goal.returns
returns c = prints_then _ _ _ _ _ c.print_all_ended.result c.in_ok-print_line.ensures.ok (rw c.as_slice.ensures at c.print_all_ended.ensures)
