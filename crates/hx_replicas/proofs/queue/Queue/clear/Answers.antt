use Rattle.std.proofs.Common.{sym, ◌∙◌}
use Rattle.hx_replicas.proofs.Queues.{fewer}
use Rattle.hx_replicas.proofs.queue.Queue.clear.Goals as goal
use Rattle.hx_links.proofs.Walking.{first_held}

pub loop-node-smaller : goal.loop-node-smaller
loop-node-smaller c =
    let there = first_held c.loop-node.self.entries c.in-Some.node (sym c.first.ensures ∙ c.in-Some.is) in
    let less = fewer c.in-Some.node c.loop-node.self.entries there in
    rw (← c.unlink.ensures.entries) at less
