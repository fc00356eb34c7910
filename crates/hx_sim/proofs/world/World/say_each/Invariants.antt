use Rattle.std.proofs.Common.{drop}
use Rattle.hx_worlds.specs.Turns.{say_entries}
use Rattle.hx_scene.specs.Doing.{Reaches}
use Rattle.hx_sim.proofs.world.World.say_each.Given as goal

-- those so far are said
abbrev pub invariant-loop-entry : goal.invariant-loop-entry
invariant-loop-entry g l = Reaches (λ x. say_entries l.fn.entries x) l.fn.self l.fn.out (λ x. say_entries (drop l.entry-index l.entries) x) l.self l.out
