use Rattle.std.proofs.Common.{◌≡◌, ap, sym, ◌∙◌}
use Rattle.hx_replicas.specs.Participants.{accepted_all}
use Rattle.hx_worlds.specs.World.{participant_of}
use Rattle.hx_worlds.specs.Runs.{for_each}
use Rattle.hx_worlds.specs.Jobs.{run_message}
use Rattle.hx_scene.specs.Scenes.{at, world_of}
use Rattle.hx_scene.proofs.Reaching.{here, reaches_as, does_err, cut_here, each_more, each_fails, each_end}
use Rattle.hx_cluster.proofs.Absent.{no_message}
use Rattle.hx_sim.proofs.Lasting.{instance_lasts}
use Rattle.hx_sim.proofs.world.World.run_accepted.Goals as goal

pub returns-in_err-accepted : goal.returns-in_err-accepted
returns-in_err-accepted g c = rw (← c.self.view_is) (does_err _ _ _ _ _ _ _ _ c.from_residual.ensures.1 (cut_here _ _ _))

pub loop-message-init : goal.loop-message-init
loop-message-init g c =
    let i = c.args.instance in
    let s = c.self.inside.scene in
    let same : c.deref-message-items.result.now ≡ accepted_all (participant_of (world_of s) i) = c.deref-message-items.ensures.value ∙ c.in_ok-accepted.ensures in
    record {
      reaches = rw (← c.self.view_is) (reaches_as (λ a. ap (λ l. for_each (run_message i) l (at s a)) (sym same)) (here _ _ _));
      there = c.requires;
    }

pub run-requires-after_bounds : goal.run-requires-after_bounds
run-requires-after_bounds g c κs within = c.loop-message.invariant.there

pub returns-in_err-run : goal.returns-in_err-run
returns-in_err-run g c =
    does_err _ _ _ _ _ _ _ _ c.from_residual-in_err-run.ensures.1
    (each_fails (run_message c.args.instance) c.deref-message-items.result.now c.loop-message.message-index no_message _ _ _ c.loop-message-test.true c.loop-message.invariant.reaches c.in_err-run.ensures)

pub loop-message-preserved : goal.loop-message-preserved
loop-message-preserved g c = record {
  reaches = each_more (run_message c.args.instance) c.deref-message-items.result.now c.loop-message.message-index no_message c.loop-message-test.true c.loop-message.invariant.reaches c.in_ok-run.ensures;
  there = instance_lasts c.in_ok-run.ensures c.args.instance c.loop-message.invariant.there;
}

pub returns : goal.returns
returns g c = each_end (run_message c.args.instance) c.deref-message-items.result.now c.loop-message.message-index c.loop-message-test.false c.loop-message.invariant.reaches
