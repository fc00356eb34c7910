use Rattle.std.proofs.Common.{◌-◌, length, vec_len}
use Rattle.hx_replicas.specs.Queues.{entries_of, HavePassed}
use Rattle.hx_replicas.proofs.queue.Queue.waiting.Given as goal

abbrev pub invariant-loop-at : goal.invariant-loop-at
invariant-loop-at l = HavePassed (entries_of l.self-inside.pool.lists) (vec_len l.found) l.at l.found.items

abbrev pub decreases-loop-at : goal.decreases-loop-at
decreases-loop-at l = length (entries_of l.self-inside.pool.lists) - vec_len l.found
