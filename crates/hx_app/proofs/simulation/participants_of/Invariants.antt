use Rattle.std.proofs.Common.{◌≡◌, ◌≤◌, length, map, vec_len, vec_capacity}
use Rattle.hx_app.specs.Simulation.{staff_at}
use Rattle.hx_app.proofs.simulation.participants_of.Given as goal

abbrev pub invariant-loop-instance : goal.invariant-loop-instance
invariant-loop-instance l = record {
  items : l.participants.items ≡ map (λ p. staff_at p.0 p.1.items) l.yielded;
  room : length l.fn.lists.items ≤ vec_capacity l.participants;
  len : vec_len l.participants ≡ length l.yielded;
}
