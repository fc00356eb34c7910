use Rattle.std.proofs.Common.{◌≤◌, length}
use Rattle.hx_replicas.proofs.queue.Queue.clear.Given as goal

abbrev pub invariant-loop-node : goal.invariant-loop-node
invariant-loop-node l = l.fn.self.spare ≤ l.self.spare

abbrev pub decreases-loop-node : goal.decreases-loop-node
decreases-loop-node l = length l.self.entries
