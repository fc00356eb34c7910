use Rattle.std.proofs.Common.{sym, refl}
use Rattle.hx_text.proofs.Printing.{prints_err, puts_none}
use Rattle.hx_cluster.specs.Steps.{opening}
use Rattle.hx_print.proofs.Followed.{log_rolled}
use Rattle.hx_script.proofs.history.print_history.Goals as goal

pub returns-in_err-roll : goal.returns-in_err-roll
returns-in_err-roll c = prints_err _ _ _ _ c.from_residual.result c.from_residual.ensures.1 (puts_none _ _ _ refl)

pub returns : goal.returns
returns c =
    let text = sym (log_rolled c.args.spec.now (opening c.args.spec.now) c.args.history.now.entries.items c.requires) in
    rw text (rw c.in_ok-roll.ensures at c.print_all.ensures)
