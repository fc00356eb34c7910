use Rattle.std.proofs.Common.{drop}
use Rattle.hx_print.specs.Texts.{placed_lines}
use Rattle.hx_text.proofs.Printing.{IsMidway}
use Rattle.hx_print.proofs.log.print_all_placed.Given as goal

-- what is printed and what is left are the whole
abbrev pub invariant-loop-i : goal.invariant-loop-i
invariant-loop-i l = IsMidway (placed_lines l.spec l.names l.proposals l.placed) l.fn.page l.page (placed_lines l.spec l.names (drop l.i l.proposals) (drop l.i l.placed))
