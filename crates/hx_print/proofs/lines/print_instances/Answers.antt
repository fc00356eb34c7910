use Rattle.hx_text.proofs.Printing.{prints_err}
use Rattle.hx_print.specs.Texts.{instance_name}
use Rattle.hx_print.proofs.Printing.{puts_word}
use Rattle.hx_print.proofs.lines.print_instances.Goals as goal

pub returns-in_err-print_word : goal.returns-in_err-print_word
returns-in_err-print_word c =
    prints_err _ _ _ _ c.from_residual.result c.from_residual.ensures.1
    (puts_word (instance_name c.args.spec.now) c.args.list.now c.loop-instance.instance-index _ _ c.loop-instance.page _ c.loop-instance-test.true c.loop-instance.invariant
    (rw c.instance_name.ensures at c.in_err-print_word.ensures.err))
