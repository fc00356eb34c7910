use Rattle.std.proofs.Common.{◌≡◌, ◌≤◌, map, vec_len, vec_capacity}
use Rattle.hx_lists.specs.Lists.{numbers_below}
use Rattle.hx_replicas.specs.Participants.{failures_on}
use Rattle.hx_app.proofs.simulation.failure_lists.Given as goal

abbrev pub invariant-loop-instance : goal.invariant-loop-instance
invariant-loop-instance l = record {
  lists : map (λ list. list.items) l.lists.items ≡ map (λ i. failures_on (record { 0 = i }) l.spec.failures) (numbers_below l.instance);
  len : vec_len l.lists ≡ l.instance;
  room : l.count ≤ vec_capacity l.lists;
}
