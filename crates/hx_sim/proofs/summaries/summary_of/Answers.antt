use Rattle.hx_sim.proofs.Counted.{counted_first, counted_all}
use Rattle.hx_sim.proofs.summaries.summary_of.Goals as goal

pub loop-event-init : goal.loop-event-init
loop-event-init c = counted_first c.counted-ok.result.kept.now c.args.entries.now.items c.counted-ok.result.ok c.counted-ok.result.failed c.counted-ok.ensures

pub returns : goal.returns
returns c = counted_all c.loop-event.summary c.counted-ok.result.kept.now c.args.entries.now.items c.loop-event.event-index c.loop-event-test.false c.loop-event.invariant
