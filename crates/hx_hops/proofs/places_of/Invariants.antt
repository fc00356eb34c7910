use Rattle.std.proofs.Common.{◌≡◌, ℕ, ◌+◌, ◌<◌, ◌==◌, length, drop, get_or}
use Rattle.std.specs.List.{position_or_len}
use Rattle.hx_hops.proofs.places_of.Given as goal

-- the places of the states that were passed, from the last on
abbrev pub invariant-loop-place : goal.invariant-loop-place
invariant-loop-place l = record {
  room : length l.places ≡ 256;
  numbered : (s : ℕ) → s < 256 → get_or l.places s 0 ≡ l.place + position_or_len (λ t. t.0 == s) (drop l.place l.states);
}
