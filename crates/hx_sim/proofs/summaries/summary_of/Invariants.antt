use Rattle.std.proofs.Common.{drop}
use Rattle.hx_sim.proofs.Counted.{AreCounted}
use Rattle.hx_sim.proofs.summaries.summary_of.Given as goal

abbrev pub invariant-loop-event : goal.invariant-loop-event
invariant-loop-event l = AreCounted l.summary (drop l.event-index l.kept) l.fn.entries.items
