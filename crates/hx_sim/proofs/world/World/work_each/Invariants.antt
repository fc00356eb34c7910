use Rattle.std.proofs.Common.{◌≡◌, true, drop, map}
use Rattle.std.specs.List.{All}
use Rattle.hx_cluster.specs.Steps.{has_instance}
use Rattle.hx_worlds.specs.Runs.{for_each}
use Rattle.hx_worlds.specs.Jobs.{do_work}
use Rattle.hx_scene.specs.Doing.{Reaches}
use Rattle.hx_sim.proofs.world.World.work_each.Given as goal

abbrev pub invariant-loop-instance : goal.invariant-loop-instance
invariant-loop-instance g l = record {
  reaches : Reaches (λ x. for_each (λ i y. do_work i y) (map (λ e. e.1) l.shown) x) l.fn.self l.fn.out
      (λ x. for_each (λ e y. do_work e.1 y) (drop l.instance-index l.shown) x) l.self l.out;
  there : All (λ e. has_instance l.self.board.cluster e.1 ≡ true) l.shown;
}
