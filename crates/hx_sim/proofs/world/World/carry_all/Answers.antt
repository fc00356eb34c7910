use Rattle.std.proofs.Common.{◌≡◌, ap, sym, ◌∙◌, map}
use Rattle.hx_worlds.specs.World.{Missing}
use Rattle.hx_worlds.specs.Runs.{for_each}
use Rattle.hx_worlds.specs.Jobs.{carry, jobs_of}
use Rattle.hx_scene.specs.Scenes.{at}
use Rattle.hx_scene.proofs.Reaching.{here, reaches_as, does_err, cut_here, each_more, each_fails, each_end}
use Rattle.hx_sim.proofs.Each.{each_map, no_id}
use Rattle.hx_sim.proofs.Lasting.{instance_lasts}
use Rattle.hx_sim.proofs.world.World.carry_all.Goals as goal

pub returns-in_err-open : goal.returns-in_err-open
returns-in_err-open g c = rw (← c.self.view_is) (does_err _ _ _ _ _ _ _ _ c.from_residual.ensures.1 (cut_here _ _ _))

pub loop-id-init : goal.loop-id-init
loop-id-init g c =
    let i = c.args.instance in
    let s = c.self.inside.scene in
    let same : c.deref-id-items.result.now ≡ map (λ j. j.message.id) (jobs_of i (at s Missing)) = c.deref-id-items.ensures.value ∙ c.in_ok-open.ensures in
    record {
      reaches = rw (← c.self.view_is)
          (reaches_as (λ a. each_map (λ id y. carry i id y) (λ j. j.message.id) (jobs_of i (at s a)) (at s a) ∙ ap (λ l. for_each (λ id y. carry i id y) l (at s a)) (sym same)) (here _ _ _));
      there = c.requires;
    }

pub carry-requires-after_bounds : goal.carry-requires-after_bounds
carry-requires-after_bounds g c κs within = c.loop-id.invariant.there

pub returns-in_err-carry : goal.returns-in_err-carry
returns-in_err-carry g c =
    does_err _ _ _ _ _ _ _ _ c.from_residual-in_err-carry.ensures.1
    (each_fails (λ id y. carry c.args.instance id y) c.deref-id-items.result.now c.loop-id.id-index no_id _ _ _ c.loop-id-test.true c.loop-id.invariant.reaches c.in_err-carry.ensures)

pub loop-id-preserved : goal.loop-id-preserved
loop-id-preserved g c = record {
  reaches = each_more (λ id y. carry c.args.instance id y) c.deref-id-items.result.now c.loop-id.id-index no_id c.loop-id-test.true c.loop-id.invariant.reaches c.in_ok-carry.ensures;
  there = instance_lasts c.in_ok-carry.ensures c.args.instance c.loop-id.invariant.there;
}

pub returns : goal.returns
returns g c = each_end (λ id y. carry c.args.instance id y) c.deref-id-items.result.now c.loop-id.id-index c.loop-id-test.false c.loop-id.invariant.reaches
