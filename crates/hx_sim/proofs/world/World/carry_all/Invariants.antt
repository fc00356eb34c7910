use Rattle.std.proofs.Common.{◌≡◌, true, drop}
use Rattle.hx_cluster.specs.Steps.{has_instance}
use Rattle.hx_worlds.specs.Runs.{for_each}
use Rattle.hx_worlds.specs.Jobs.{carry, carry_jobs}
use Rattle.hx_scene.specs.Doing.{Reaches}
use Rattle.hx_sim.proofs.world.World.carry_all.Given as goal

abbrev pub invariant-loop-id : goal.invariant-loop-id
invariant-loop-id g l = record {
  reaches : Reaches (λ x. carry_jobs l.instance x) l.fn.self l.fn.out (λ x. for_each (λ id y. carry l.instance id y) (drop l.id-index l.id-items) x) l.self l.out;
  there : has_instance l.self.board.cluster l.instance ≡ true;
}
