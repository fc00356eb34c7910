use Rattle.std.proofs.Common.{refl, arith}
use Rattle.std.proofs.lemmas.Grind.{common_steps}
use Rattle.std.specs.List.{flat_map}
use Rattle.hx_text.proofs.Printing.{puts_item, prints_err}
use Rattle.hx_print.specs.Texts.{ended_line}
use Rattle.hx_print.proofs.log.print_all_ended.Goals as goal

pub returns-in_err-print_ended : goal.returns-in_err-print_ended
returns-in_err-print_ended c =
    let line = ended_line c.args.spec.now c.args.live.now in
    prints_err _ _ _ _ c.from_residual.result c.from_residual.ensures.1
    (puts_item line (flat_map line) (λ x xs. refl) c.args.ended.now c.loop-session.session-index _ _ _ c.loop-session.page _ c.loop-session-test.true c.loop-session.invariant
    c.in_err-print_ended.ensures.err)

pub loop-session-preserved : goal.loop-session-preserved
loop-session-preserved c = grind (arith, common_steps)

pub returns : goal.returns
returns c = grind (arith, common_steps)
