use Rattle.hx_text.proofs.Printing.{puts_first, prints_err, prints_then}
use Rattle.hx_print.proofs.Placed.{placed_in_parts}
use Rattle.hx_print.proofs.log.print_placed.Goals as goal

pub returns-in_err-print_answer : goal.returns-in_err-print_answer
returns-in_err-print_answer c =
    rw (placed_in_parts c.args.spec.now c.args.names.now c.args.proposal.now c.args.answer)
    (prints_err _ _ _ _ c.from_residual.result c.from_residual.ensures.1 (puts_first _ _ _ _ c.in_err-print_answer.ensures.err))

pub returns : goal.returns
returns c =
    rw (placed_in_parts c.args.spec.now c.args.names.now c.args.proposal.now c.args.answer)
    (prints_then _ _ _ _ _ _ c.in_ok-print_answer.ensures.ok c.print_proposal.ensures)
