use Rattle.hx_text.proofs.Printing.{prints_err}
use Rattle.hx_print.specs.Texts.{pair_name}
use Rattle.hx_print.proofs.Printing.{puts_word}
use Rattle.hx_print.proofs.lines.print_pairs.Goals as goal

pub returns-in_err-print_word : goal.returns-in_err-print_word
returns-in_err-print_word c =
    prints_err _ _ _ _ c.from_residual.result c.from_residual.ensures.1
    (puts_word (pair_name c.args.spec.now c.args.sign.now) c.args.entries.now c.loop-entry.entry-index _ _ c.loop-entry.page _ c.loop-entry-test.true c.loop-entry.invariant
    (rw (c.instance_name-instance.ensures, c.state_name-state.ensures) at c.in_err-print_word.ensures.err))
