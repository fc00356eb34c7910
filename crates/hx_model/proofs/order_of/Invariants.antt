use Rattle.std.proofs.Common.{◌≡◌, map, take, length}
use Rattle.hx_model.proofs.order_of.Given as goal

abbrev pub invariant-loop-place : goal.invariant-loop-place
invariant-loop-place l = record {
  taken : take l.place l.order ≡ map (λ p. p.0) (take l.place l.states);
  room : length l.order ≡ 16;
}
