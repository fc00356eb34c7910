use Rattle.std.proofs.Common.{map, drop}
use Rattle.hx_print.specs.Texts.{spaced, pair_name}
use Rattle.hx_text.proofs.Printing.{IsMidway}
use Rattle.hx_print.proofs.lines.print_pairs.Given as goal

-- what is printed and what is left are the whole
abbrev pub invariant-loop-entry : goal.invariant-loop-entry
invariant-loop-entry l = IsMidway (spaced (map (pair_name l.spec l.sign) l.entries)) l.fn.page l.page (spaced (map (pair_name l.spec l.sign) (drop l.entry-index l.entries)))
