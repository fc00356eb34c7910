use Rattle.std.proofs.Common.{◌++◌, drop, sym, ap, ◌∙◌, arith}
use Rattle.std.proofs.lemmas.Grind.{common_steps}
use Rattle.std.proofs.lemmas.List.{append-nil}
use Rattle.hx_text.proofs.Printing.{prints_err}
use Rattle.hx_print.proofs.Placed.{placed_lines-past, puts_placed}
use Rattle.hx_print.proofs.log.print_all_placed.Goals as goal

pub returns-in_default : goal.returns-in_default
returns-in_default c =
    let past = placed_lines-past c.args.spec.now c.args.names.now (drop c.loop-i.i c.args.proposals.now) c.args.placed.now c.loop-i.i c.in_default.ensures.lookup.3 in
    record { ok = sym (append-nil c.loop-i.page) ∙ ap (λ t. c.loop-i.page ++ t) (sym past) ∙ c.loop-i.invariant.whole; err = tt }

pub returns-in_err-print_placed : goal.returns-in_err-print_placed
returns-in_err-print_placed c =
    let some = c.in-Some.ensures.lookup in
    prints_err _ _ _ _ c.from_residual.result c.from_residual.ensures.1
    (puts_placed c.args.spec.now c.args.names.now c.args.proposals.now c.args.placed.now c.loop-i.i _ c.in-Some.answer.now _ c.loop-i.page _
    c.loop-i-test.true some.3.0 some.1 c.loop-i.invariant c.in_err-print_placed.ensures.err)

pub loop-i-preserved : goal.loop-i-preserved
loop-i-preserved c = grind (arith, common_steps)

pub returns : goal.returns
returns c = grind (arith, common_steps)
