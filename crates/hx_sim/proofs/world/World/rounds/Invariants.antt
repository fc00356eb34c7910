use Rattle.std.proofs.Common.{◌-◌}
use Rattle.hx_worlds.specs.Settles.{rounds}
use Rattle.hx_scene.specs.Doing.{Reaches}
use Rattle.hx_sim.proofs.world.World.rounds.Given as goal

-- those that are left
abbrev pub invariant-loop-passes : goal.invariant-loop-passes
invariant-loop-passes g l = Reaches (rounds l.fn.most l.fn.controller 0) l.fn.self l.fn.out (rounds (l.fn.most - l.passes) l.fn.controller l.passes) l.self l.out
