use Rattle.hx_replicas.proofs.Queues.{placed_without}
use Rattle.hx_replicas.proofs.queue.Queue.unlink.Goals as goal

pub invariant_of-self : goal.invariant_of-self
invariant_of-self c =
    placed_without c.self.inside.list c.self.inside.pool.lists c.unlink.new.self.lists c.args.node c.self.invariant (rw (← c.self.view_is) at c.requires) c.unlink.ensures.lists
