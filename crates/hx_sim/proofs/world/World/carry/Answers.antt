use Rattle.hx_worlds.specs.declared.Voice.TheVariants.{Quiet}
use Rattle.hx_worlds.specs.Jobs.{do_ack}
use Rattle.hx_scene.proofs.Reaching.{does_err, does_then_deed, fails_inside_deed}
use Rattle.hx_sim.proofs.Lasting.{instance_lasts}
use Rattle.hx_sim.proofs.world.World.carry.Goals as goal

pub returns-in_err-write : goal.returns-in_err-write
returns-in_err-write g c =
    rw (← c.self.view_is)
    (does_err _ _ _ _ _ _ _ _ c.from_residual.ensures.1 (fails_inside_deed _ _ _ _ _ _ c.in_err-write.ensures (λ y. do_ack Quiet c.args.instance c.args.id y)))

pub ack-requires-after_bounds : goal.ack-requires-after_bounds
ack-requires-after_bounds g c κs within = instance_lasts c.in_ok-write.ensures c.args.instance (rw (← c.self.view_is) at c.requires)

pub returns : goal.returns
returns g c = rw (← c.self.view_is) (does_then_deed c.in_ok-write.ensures (λ y. do_ack Quiet c.args.instance c.args.id y) _ _ _ _ c.ack.ensures)
