use Rattle.hx_worlds.specs.Jobs.{carry}
use Rattle.hx_scene.proofs.Reaching.{does_err, does_then_deed, fails_inside_deed}
use Rattle.hx_sim.proofs.Lasting.{instance_lasts}
use Rattle.hx_sim.proofs.world.World.run.Goals as goal

pub returns-in_err-take : goal.returns-in_err-take
returns-in_err-take g c =
    rw (← c.self.view_is)
    (does_err _ _ _ _ _ _ _ _ c.from_residual.ensures.1 (fails_inside_deed _ _ _ _ _ _ c.in_err-take.ensures (λ y. carry c.args.instance c.args.message.now.id y)))

pub carry-requires-after_bounds : goal.carry-requires-after_bounds
carry-requires-after_bounds g c κs within = instance_lasts c.in_ok-take.ensures c.args.instance (rw (← c.self.view_is) at c.requires)

pub returns : goal.returns
returns g c = rw (← c.self.view_is) (does_then_deed c.in_ok-take.ensures (λ y. carry c.args.instance c.args.message.now.id y) _ _ _ _ c.carry.ensures)
