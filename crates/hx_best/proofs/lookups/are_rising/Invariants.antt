use Rattle.std.proofs.Common.{ℕ, ◌+◌, ◌<◌, get_or}
use Rattle.hx_ids.specs.declared.SessionId.{SessionId}
use Rattle.hx_ids.specs.declared.InstanceId.{InstanceId}
use Rattle.hx_best.proofs.lookups.are_rising.Given as goal

-- the sessions so far rise
abbrev pub invariant-loop-place : goal.invariant-loop-place
invariant-loop-place l = (k : ℕ) (e : SessionId × InstanceId) → k + 1 < l.place → (get_or l.live k e).0.0 < (get_or l.live (k + 1) e).0.0
