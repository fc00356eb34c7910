use Rattle.std.proofs.Common.{◌≡◌, true, drop}
use Rattle.hx_cluster.specs.Steps.{has_instance}
use Rattle.hx_worlds.specs.Runs.{for_each}
use Rattle.hx_worlds.specs.Jobs.{run_message, run_accepted}
use Rattle.hx_scene.specs.Doing.{Reaches}
use Rattle.hx_sim.proofs.world.World.run_accepted.Given as goal

abbrev pub invariant-loop-message : goal.invariant-loop-message
invariant-loop-message g l = record {
  reaches : Reaches (λ x. run_accepted l.instance x) l.fn.self l.fn.out (λ x. for_each (run_message l.instance) (drop l.message-index l.message-items) x) l.self l.out;
  there : has_instance l.self.board.cluster l.instance ≡ true;
}
