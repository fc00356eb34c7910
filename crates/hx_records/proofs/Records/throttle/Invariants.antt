use Rattle.std.proofs.Common.{◌≡◌, drop}
use Rattle.hx_cluster.specs.Messages.{throttled_from}
use Rattle.hx_records.proofs.Records.throttle.Given as goal

-- no rule so far holds the proposal back
abbrev pub invariant-loop-place : goal.invariant-loop-place
invariant-loop-place l = throttled_from l.self l.proposal l.place (drop l.place l.self.rules) ≡ throttled_from l.self l.proposal 0 l.self.rules
