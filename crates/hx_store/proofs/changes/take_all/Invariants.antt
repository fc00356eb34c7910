use Rattle.std.specs.VecDeque.Iter.{deque_iter_rest}
use Rattle.hx_store.proofs.Together.{IsTakingRest}
use Rattle.hx_store.proofs.changes.take_all.Given as goal

abbrev pub invariant-loop-key : goal.invariant-loop-key
invariant-loop-key g l = IsTakingRest l.initial.records l.records l.keys (deque_iter_rest l.key-iterator)
