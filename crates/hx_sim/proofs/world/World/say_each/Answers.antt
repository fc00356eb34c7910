use Rattle.hx_worlds.specs.Turns.{say_finding}
use Rattle.hx_scene.proofs.Reaching.{here, each_more, each_fails, each_end, does_err}
use Rattle.hx_sim.proofs.world.World.say_each.Goals as goal

pub loop-entry-init : goal.loop-entry-init
loop-entry-init g c = here _ _ _

pub loop-entry-preserved : goal.loop-entry-preserved
loop-entry-preserved g c =
    each_more (λ e y. say_finding e.target e.finding y) c.args.entries.now c.loop-entry.entry-index c.entry-item.result c.loop-entry-test.true c.loop-entry.invariant
    (rw (← c.entry-item.is) c.in_ok-say_entry.ensures)

pub returns-in_err-say_entry : goal.returns-in_err-say_entry
returns-in_err-say_entry g c =
    does_err _ _ _ _ _ _ _ _ c.from_residual.ensures.1
    (each_fails (λ e y. say_finding e.target e.finding y) c.args.entries.now c.loop-entry.entry-index c.entry-item.result _ _ _ c.loop-entry-test.true c.loop-entry.invariant
    (rw (← c.entry-item.is) c.in_err-say_entry.ensures))

pub returns : goal.returns
returns g c = each_end (λ e y. say_finding e.target e.finding y) c.args.entries.now c.loop-entry.entry-index c.loop-entry-test.false c.loop-entry.invariant
