use Rattle.std.proofs.Common.{◌++◌, codes, decimal, ap, sym, append_assoc}
use Rattle.hx_text.proofs.Printing.{puts_first, prints_err, prints_next}
use Rattle.hx_print.specs.Texts.{numbered}
use Rattle.hx_print.proofs.lines.print_part.Goals as goal

pub returns-in_err-print_resource : goal.returns-in_err-print_resource
returns-in_err-print_resource c =
    let name = codes " " ++ numbered c.args.name.now c.args.part.resource in
    let index = decimal c.args.part.index in
    prints_err _ _ _ _ c.from_residual.result c.from_residual.ensures.1
    (puts_first _ _ (name ++ codes "/") index (puts_first _ _ name (codes "/") c.in_err-print_resource.ensures.err))

pub returns : goal.returns
returns c =
    let name = numbered c.args.name.now c.args.part.resource in
    let index = decimal c.args.part.index in
    prints_next c.args.page.now c.print_resource.new.page c.push_numbered.new.self (codes " " ++ name) (codes "/" ++ index) _ c.push_numbered.result
    c.in_ok-print_resource.ensures.ok c.push_numbered.ensures.ok c.push_numbered.ensures.err (ap (λ t. codes " " ++ t) (sym (append_assoc name (codes "/") index)))
