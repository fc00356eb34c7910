use Rattle.std.proofs.Common.{◌≡◌, true, sym}
use Rattle.std.proofs.lemmas.List.Elements.{All-get_or, All-weaker}
use Rattle.hx_ids.specs.declared.InstanceId.{InstanceId}
use Rattle.hx_ids.specs.declared.SessionId.{SessionId}
use Rattle.hx_cluster.specs.Steps.{has_instance}
use Rattle.hx_worlds.specs.Jobs.{do_work}
use Rattle.hx_scene.specs.Scenes.{SceneState, at}
use Rattle.hx_scene.proofs.Reaching.{here, reaches_as, does_err, each_more, each_fails, each_end}
use Rattle.hx_sim.proofs.Each.{each_map, no_session}
use Rattle.hx_sim.proofs.Lasting.{instance_lasts}
use Rattle.hx_sim.proofs.world.World.work_each.Goals as goal

abbrev IsThere : SceneState → SessionId × InstanceId → Type 0
IsThere s e = has_instance s.board.cluster e.1 ≡ true

pub loop-instance-init : goal.loop-instance-init
loop-instance-init g c = record {
  reaches = reaches_as (λ a. sym (each_map (λ i y. do_work i y) (λ (e : SessionId × InstanceId). e.1) c.args.shown.now (at c.args.self.now a))) (here _ _ _);
  there = c.requires;
}

pub work-requires-after_bounds : goal.work-requires-after_bounds
work-requires-after_bounds g c κs within =
    All-get_or (IsThere c.loop-instance.self) c.args.shown.now c.loop-instance.instance-index no_session c.loop-instance-test.true c.loop-instance.invariant.there

pub returns-in_err-work : goal.returns-in_err-work
returns-in_err-work g c =
    does_err _ _ _ _ _ _ _ _ c.from_residual.ensures.1
    (each_fails (λ e y. do_work e.1 y) c.args.shown.now c.loop-instance.instance-index no_session _ _ _ c.loop-instance-test.true c.loop-instance.invariant.reaches c.in_err-work.ensures)

pub loop-instance-preserved : goal.loop-instance-preserved
loop-instance-preserved g c = record {
  reaches = each_more (λ e y. do_work e.1 y) c.args.shown.now c.loop-instance.instance-index no_session c.loop-instance-test.true c.loop-instance.invariant.reaches c.in_ok-work.ensures;
  there = All-weaker (IsThere c.loop-instance.self) (IsThere c.work.new.self) (λ e h. instance_lasts c.in_ok-work.ensures e.1 h) c.args.shown.now c.loop-instance.invariant.there;
}

pub returns : goal.returns
returns g c = each_end (λ e y. do_work e.1 y) c.args.shown.now c.loop-instance.instance-index c.loop-instance-test.false c.loop-instance.invariant.reaches
