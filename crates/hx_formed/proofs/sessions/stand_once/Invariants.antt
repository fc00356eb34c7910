use Rattle.std.proofs.Common.{◌≡◌, drop}
use Rattle.hx_formed.specs.Sessions.{are_distinct}
use Rattle.hx_formed.proofs.sessions.stand_once.Given as goal

-- the sessions so far stand once
abbrev pub invariant-loop-place : goal.invariant-loop-place
invariant-loop-place l = are_distinct (drop l.place l.live) ≡ are_distinct l.live
