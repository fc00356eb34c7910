use Rattle.hx_replicas.specs.Queues.{ArePlaced}
use Rattle.hx_replicas.proofs.Queues.{placed_push}
use Rattle.std.specs.Prelude.{Some}
use Rattle.hx_replicas.proofs.queue.Queue.push_reserved.Goals as goal

pub invariant_of-self : goal.invariant_of-self
invariant_of-self c =
    let placed : ArePlaced (Some c.in-Some.list) c.self.inside.pool.lists = rw c.in-Some.is at c.self.invariant in
    rw c.in-Some.is (placed_push c.in-Some.list c.self.inside.pool.lists c.push_reserved.new.self.lists c.push_reserved.result c.args.waiting placed c.push_reserved.ensures.fresh c.push_reserved.ensures.lists)
