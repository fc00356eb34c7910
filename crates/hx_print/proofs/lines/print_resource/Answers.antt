use Rattle.std.proofs.Common.{◌++◌, codes, decimal, ap, sym, append_assoc}
use Rattle.hx_text.proofs.Printing.{prints_next}
use Rattle.hx_print.proofs.lines.print_resource.Goals as goal

pub returns : goal.returns
returns c =
    let name = c.args.name.now in
    let number = decimal c.args.resource.0 in
    prints_next c.args.page.now c.push_word.new.self c.push_numbered.new.self (codes " " ++ name) (codes "#" ++ number) _ c.push_numbered.result
    c.in_ok-push_word.ensures.ok c.push_numbered.ensures.ok c.push_numbered.ensures.err (ap (λ t. codes " " ++ t) (sym (append_assoc name (codes "#") number)))
