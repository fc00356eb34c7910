use Rattle.hx_text.proofs.Printing.{IsMidway}
use Rattle.hx_print.specs.Rolls.{rolled_text}
use Rattle.hx_script.proofs.history.print_all.Given as goal

-- what is printed and what is left are the whole
abbrev pub invariant-loop-told : goal.invariant-loop-told
invariant-loop-told l = IsMidway (rolled_text l.spec l.fn.roll l.fn.entries.items) l.fn.out l.out (rolled_text l.spec l.roll l.told-iterator)
