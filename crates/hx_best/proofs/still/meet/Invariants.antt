use Rattle.std.proofs.Common.{◌≡◌, ◌==◌, drop, find}
use Rattle.hx_best.proofs.still.meet.Given as goal

-- no row so far is of the session, and none was noted
abbrev pub invariant-loop-place : goal.invariant-loop-place
invariant-loop-place l = record {
  left : find (λ r. r.session.0 == l.session.0) l.rows ≡ find (λ r. r.session.0 == l.session.0) (drop l.place l.rows);
  same : l.met ≡ l.fn.met;
}
