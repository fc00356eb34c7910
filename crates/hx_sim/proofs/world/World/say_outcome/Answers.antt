use Rattle.hx_scene.proofs.Reaching.{does_err, fails_inside_deed, does_then_deed}
use Rattle.hx_sim.proofs.world.World.say_outcome.Goals as goal

pub returns-in-Sent : goal.returns-in-Sent
returns-in-Sent g c = rw (c.in-Sent.is, ← c.self.view_is) c.say_sent.ensures

pub returns-in-Waiting : goal.returns-in-Waiting
returns-in-Waiting g c = rw (c.in-Waiting.is, ← c.self-in-Waiting.view_is) c.say_waiting.ensures

pub returns-in-Moved : goal.returns-in-Moved
returns-in-Moved g c = rw (c.in-Moved.is, ← c.self-in-Moved.view_is) c.say_moved.ensures

pub returns-in_err-say_settled-in-Settled : goal.returns-in_err-say_settled-in-Settled
returns-in_err-say_settled-in-Settled g c =
    rw (c.in-Settled.is, ← c.self-in-Settled.view_is) (does_err _ _ _ _ _ _ _ _ c.from_residual.ensures.1 (fails_inside_deed _ _ _ _ _ _ c.in_err-say_settled-in-Settled.ensures _))

pub returns-in_ok-say_settled-in-Settled : goal.returns-in_ok-say_settled-in-Settled
returns-in_ok-say_settled-in-Settled g c =
    rw (c.in-Settled.is, ← c.self-in-Settled.view_is) (does_then_deed c.in_ok-say_settled-in-Settled.ensures _ _ _ _ _ c.say_entries.ensures)
