use Rattle.hx_text.proofs.Printing.{prints_whole}
use Rattle.hx_print.proofs.roll.Roll.print_next.Goals as goal

pub returns-clause-text : goal.returns-clause-text
returns-clause-text c = prints_whole _ _ _ c.follow.result c.in_ok-print_event.ensures.ok
