use Rattle.std.proofs.Common.{◌-◌}
use Rattle.hx_worlds.specs.Turns.{do_calls}
use Rattle.hx_scene.specs.Doing.{Reaches}
use Rattle.hx_sim.proofs.Calling.{calls_left}
use Rattle.hx_sim.proofs.world.World.calls.Given as goal

-- those that are left, after the outcome so far
abbrev pub invariant-loop : goal.invariant-loop
invariant-loop g l =
    Reaches (do_calls l.fn.voice l.fn.controller l.fn.count) l.fn.self l.fn.out (calls_left l.fn.voice l.fn.controller (l.fn.count - l.counter) l.outcome) l.self l.out
