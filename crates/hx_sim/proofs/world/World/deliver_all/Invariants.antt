use Rattle.std.proofs.Common.{◌≡◌, true, drop}
use Rattle.hx_cluster.specs.Steps.{has_instance}
use Rattle.hx_worlds.specs.declared.Voice.TheVariants.{Quiet}
use Rattle.hx_worlds.specs.Runs.{for_each}
use Rattle.hx_worlds.specs.Jobs.{deliver}
use Rattle.hx_scene.specs.Doing.{Reaches}
use Rattle.hx_sim.proofs.world.World.deliver_all.Given as goal

abbrev pub invariant-loop-message : goal.invariant-loop-message
invariant-loop-message g l = record {
  reaches : Reaches (λ x. for_each (λ m y. deliver Quiet l.instance m y) l.messages x) l.fn.self l.fn.out
      (λ x. for_each (λ m y. deliver Quiet l.instance m y) (drop l.message-index l.messages) x) l.self-inside.scene l.out;
  there : has_instance l.self-inside.scene.board.cluster l.instance ≡ true;
  bag : l.self-inside.scene.bag ≡ l.fn.self.bag;
}
