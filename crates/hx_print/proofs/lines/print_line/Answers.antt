use Rattle.std.proofs.Common.{codes, append_assoc}
use Rattle.hx_text.proofs.Printing.{puts_none, prints_err, prints_then}
use Rattle.hx_print.specs.Texts.{spaced}
use Rattle.hx_print.specs.Tokens.{words_of}
use Rattle.hx_print.proofs.lines.print_line.Goals as goal

pub returns-in_err-push_str : goal.returns-in_err-push_str
returns-in_err-push_str c = prints_err _ _ _ _ c.from_residual.result c.from_residual.ensures.1 (puts_none _ _ _ c.in_err-push_str.ensures.err)

pub returns : goal.returns
returns c =
    rw (append_assoc c.args.first.now (spaced (words_of c.args.others.now)) (codes "\n"))
    (prints_then _ _ _ _ _ _ c.in_ok-push_str.ensures.ok c.print_end.ensures)
