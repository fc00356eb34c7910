use Rattle.std.proofs.Common.{◌≡◌, ◌+◌, ◌-◌, ◌≤◌, length, map, take, vec_len, vec_capacity}
use Rattle.hx_replicas.proofs.queue.messages_of.Given as goal

abbrev pub invariant-loop-one : goal.invariant-loop-one
invariant-loop-one l = record {
  items : l.messages.items ≡ map (λ w. w.message) (take l.one-index l.waiting);
  room : vec_len l.messages + (length l.waiting - l.one-index) ≤ vec_capacity l.messages;
}
