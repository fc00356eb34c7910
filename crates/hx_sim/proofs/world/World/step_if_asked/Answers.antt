use Rattle.hx_worlds.specs.Scripts.{do_asked}
use Rattle.hx_sim.proofs.Words.{does_same}
use Rattle.hx_sim.proofs.world.World.step_if_asked.Goals as goal

pub returns-in-Some : goal.returns-in-Some
returns-in-Some g c = rw (← c.self.view_is) (does_same (do_asked c.args.voice) c.in-Some.is _ _ _ _ _ _ c.step.ensures)

pub returns-in-None : goal.returns-in-None
returns-in-None g c =
    rw (← c.self.view_is) (does_same (do_asked c.args.voice) c.in-None.is _ _ _ _ _ _ c.note.ensures.does)
