use Rattle.hx_app.proofs.Along.{IsAlong}
use Rattle.hx_app.proofs.simulation.do_lines.Given as goal

abbrev pub invariant-loop-line : goal.invariant-loop-line
invariant-loop-line g l = IsAlong l.fn.lines l.line-index l.fn.world l.world l.fn.page l.page
