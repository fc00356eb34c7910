use Rattle.std.proofs.Common.{drop}
use Rattle.std.specs.List.{flat_map}
use Rattle.hx_print.specs.Texts.{ended_line}
use Rattle.hx_text.proofs.Printing.{IsMidway}
use Rattle.hx_print.proofs.log.print_all_ended.Given as goal

-- what is printed and what is left are the whole
abbrev pub invariant-loop-session : goal.invariant-loop-session
invariant-loop-session l = IsMidway (flat_map (ended_line l.spec l.live) l.ended) l.fn.page l.page (flat_map (ended_line l.spec l.live) (drop l.session-index l.ended))
