use Rattle.std.proofs.Common.{◌≡◌, None, replicate}
use Rattle.hx_records.proofs.empty_seats.Given as goal

abbrev pub invariant-loop : goal.invariant-loop
invariant-loop l = l.seats ≡ replicate l.counter None
