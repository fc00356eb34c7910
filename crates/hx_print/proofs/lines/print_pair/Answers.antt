use Rattle.std.proofs.Common.{◌++◌, codes, refl, sym, ap, ◌∙◌, append_assoc}
use Rattle.hx_text.proofs.Printing.{puts_part, prints_err, prints_next}
use Rattle.hx_print.proofs.lines.print_pair.Goals as goal

pub returns-in_err-push_str : goal.returns-in_err-push_str
returns-in_err-push_str c =
    let a = c.args.a.now in
    let sign = c.args.sign.now in
    let b = c.args.b.now in
    prints_err _ _ _ _ c.from_residual-in_err-push_str.result c.from_residual-in_err-push_str.ensures.1
    (puts_part c.args.page.now c.push_str.new.self (codes " " ++ a) (sign ++ b) _
    (c.in_err-push_str.ensures.err ∙ c.in_ok-push_word.ensures.ok)
    (ap (λ t. codes " " ++ t) (sym (append_assoc a sign b))))

pub returns : goal.returns
returns c =
    let a = codes " " ++ c.args.a.now in
    let sign = c.args.sign.now in
    prints_next c.args.page.now c.push_str.new.self c.push_str-2.new.self (a ++ sign) c.args.b.now _ c.push_str-2.result
    (c.in_ok-push_str.ensures.ok ∙ ap (λ t. t ++ sign) c.in_ok-push_word.ensures.ok ∙ append_assoc c.args.page.now a sign)
    c.push_str-2.ensures.ok c.push_str-2.ensures.err refl
