use Rattle.std.proofs.Common.{rules, subst, List}
use Rattle.std.specs.List.Sorted.{IsStableBy}
use Rattle.std.proofs.lemmas.Fn.{always_returns_same}
use Rattle.hx_replicas.specs.declared.queue.Waiting.{Waiting}
use Rattle.hx_replicas.specs.Queues.{waits_before}
use Rattle.hx_replicas.proofs.queue.Queue.in_order.Goals as goal

pub returns-clause-sorted : goal.returns-clause-sorted
returns-clause-sorted c = c.in_ok-sort_by_key.ensures.sorted (λ w. (w.message.id.0, w.place)) (always_returns_same _ _ _ (λ a r f' k. search rules))

pub returns-clause-stable : goal.returns-clause-stable
returns-clause-stable c =
    subst (λ (ws : List Waiting). IsStableBy waits_before ws c.sort_by_key.new.self.items) c.in_ok-found.ensures
    (c.in_ok-sort_by_key.ensures.stable (λ w. (w.message.id.0, w.place)) (always_returns_same _ _ _ (λ a r f' k. search rules)))
