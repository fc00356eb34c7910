use Rattle.hx_text.proofs.Printing.{puts_first, prints_err, prints_then}
use Rattle.hx_print.proofs.log.print_event.Goals as goal

pub returns-in_err-print_turn-in-Dispatch : goal.returns-in_err-print_turn-in-Dispatch
returns-in_err-print_turn-in-Dispatch c =
    rw c.in-Dispatch.is (prints_err _ _ _ _ c.from_residual.result c.from_residual.ensures.1 (puts_first _ _ _ _ c.in_err-print_turn-in-Dispatch.ensures.err))

pub returns-in_ok-print_turn-in-Dispatch : goal.returns-in_ok-print_turn-in-Dispatch
returns-in_ok-print_turn-in-Dispatch c =
    rw c.in-Dispatch.is (prints_then _ _ _ _ _ c.print_answered.result c.in_ok-print_turn-in-Dispatch.ensures.ok c.print_answered.ensures)
