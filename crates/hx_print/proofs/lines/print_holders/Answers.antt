use Rattle.std.proofs.Common.{sym}
use Rattle.hx_text.proofs.Printing.{prints_err}
use Rattle.hx_print.proofs.Holders.{puts_holder}
use Rattle.hx_print.proofs.lines.print_holders.Goals as goal

pub returns-in_err-print_word : goal.returns-in_err-print_word
returns-in_err-print_word c =
    prints_err _ _ _ _ c.from_residual.result c.from_residual.ensures.1
    (puts_holder c.args.spec.now c.args.holders.now c.args.shown.now c.loop-entry.entry-index _ _ c.loop-entry.page _ c.loop-entry-test.true (sym c.if-is_holder.ensures) c.loop-entry.invariant
    (rw c.instance_name.ensures at c.in_err-print_word.ensures.err))
