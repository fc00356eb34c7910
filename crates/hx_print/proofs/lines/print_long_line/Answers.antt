use Rattle.hx_text.proofs.Printing.{puts_first, puts_then, prints_err, prints_or_none, prints_then}
use Rattle.hx_print.specs.Tokens.{words_of, rest_words}
use Rattle.hx_print.proofs.Printing.{line_in_parts}
use Rattle.hx_print.proofs.lines.print_long_line.Goals as goal

pub returns-in_err-print_start : goal.returns-in_err-print_start
returns-in_err-print_start c =
    rw (line_in_parts c.args.first.now (words_of c.args.words.now) (rest_words c.args.spec.now c.args.rest.now))
    (prints_err _ _ _ _ c.from_residual.result c.from_residual.ensures.1 (puts_first _ _ _ _ c.in_err-print_start.ensures.err))

pub returns-in_err-print_rest : goal.returns-in_err-print_rest
returns-in_err-print_rest c =
    rw (line_in_parts c.args.first.now (words_of c.args.words.now) (rest_words c.args.spec.now c.args.rest.now))
    (prints_err _ _ _ _ c.from_residual-in_err-print_rest.result c.from_residual-in_err-print_rest.ensures.1
    (puts_then _ _ _ _ _ c.in_ok-print_start.ensures.ok (puts_first _ _ _ _ c.in_err-print_rest.ensures.err)))

pub returns : goal.returns
returns c =
    let end = prints_or_none _ _ _ c.push_byte.result c.push_byte.ensures.ok c.push_byte.ensures.err in
    rw (line_in_parts c.args.first.now (words_of c.args.words.now) (rest_words c.args.spec.now c.args.rest.now))
    (prints_then _ _ _ _ _ _ c.in_ok-print_start.ensures.ok (prints_then _ _ _ _ _ _ c.in_ok-print_rest.ensures.ok end))
