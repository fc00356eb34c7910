use Rattle.std.proofs.Common.{drop}
use Rattle.hx_print.specs.Texts.{view_of_part}
use Rattle.hx_worlds.specs.Runs.{for_each}
use Rattle.hx_worlds.specs.Scripts.{say_view_of}
use Rattle.hx_scene.specs.Doing.{Reaches}
use Rattle.hx_sim.specs.Viewing.{IsViewOf}
use Rattle.hx_sim.proofs.world.World.view_each.Given as goal

abbrev pub invariant-loop-part : goal.invariant-loop-part
invariant-loop-part g l = record {
  reaches : Reaches (λ x. for_each (λ p y. say_view_of p (view_of_part y.world.cluster p) y) l.parts x) l.fn.self l.fn.out
      (λ x. for_each (λ p y. say_view_of p (view_of_part y.world.cluster p) y) (drop l.part-index l.parts) x) l.self-inside.scene l.out;
  view : IsViewOf l.rows l.self-inside.scene.board.cluster;
}
