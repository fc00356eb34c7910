use Rattle.std.proofs.Common.{drop}
use Rattle.hx_print.specs.Texts.{spaced, holder_names}
use Rattle.hx_text.proofs.Printing.{IsMidway}
use Rattle.hx_print.proofs.lines.print_holders.Given as goal

-- what is printed and what is left are the whole
abbrev pub invariant-loop-entry : goal.invariant-loop-entry
invariant-loop-entry l = IsMidway (spaced (holder_names l.spec l.shown l.holders)) l.fn.page l.page (spaced (holder_names l.spec (drop l.entry-index l.shown) l.holders))
