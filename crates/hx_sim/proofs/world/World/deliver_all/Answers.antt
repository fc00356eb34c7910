use Rattle.std.proofs.Common.{ap, ◌∙◌}
use Rattle.hx_worlds.specs.declared.Voice.TheVariants.{Quiet}
use Rattle.hx_worlds.specs.Jobs.{deliver}
use Rattle.hx_scene.specs.Scenes.{SceneState}
use Rattle.hx_scene.proofs.Reaching.{here, does_err, each_more, each_fails}
use Rattle.hx_cluster.proofs.Absent.{no_message}
use Rattle.hx_sim.proofs.Lasting.{instance_lasts}
use Rattle.hx_sim.proofs.world.World.deliver_all.Goals as goal

pub loop-message-init : goal.loop-message-init
loop-message-init g c = record {
  reaches = rw (← c.self.view_is) (here _ _ _);
  there = rw (← c.self.view_is) at c.requires.instance;
  bag = ap (λ (s : SceneState). s.bag) c.self.view_is;
}

pub returns-in_err-deliver : goal.returns-in_err-deliver
returns-in_err-deliver g c =
    does_err _ _ _ _ _ _ _ _ c.from_residual.ensures.1
    (each_fails (λ m y. deliver Quiet c.args.instance m y) c.args.messages.now c.loop-message.message-index no_message _ _ _ c.loop-message-test.true c.loop-message.invariant.reaches
    c.in_err-deliver.ensures.does)

pub loop-message-preserved : goal.loop-message-preserved
loop-message-preserved g c = record {
  reaches = each_more (λ m y. deliver Quiet c.args.instance m y) c.args.messages.now c.loop-message.message-index no_message c.loop-message-test.true c.loop-message.invariant.reaches
      c.in_ok-deliver.ensures.does;
  there = instance_lasts c.in_ok-deliver.ensures.does c.args.instance c.loop-message.invariant.there;
  bag = c.in_ok-deliver.ensures.bag ∙ c.loop-message.invariant.bag;
}
