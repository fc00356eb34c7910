use Rattle.std.proofs.Common.{◌-◌, length, vec_len}
use Rattle.hx_sessions.specs.Places.{entries_of, HavePassed}
use Rattle.hx_sessions.proofs.Sessions.expired.Given as goal

abbrev pub invariant-loop-at : goal.invariant-loop-at
invariant-loop-at l = HavePassed (entries_of l.self-inside.pool.lists) l.now l.timeout (vec_len l.ended) l.at l.ended.items

abbrev pub decreases-loop-at : goal.decreases-loop-at
decreases-loop-at l = length (entries_of l.self-inside.pool.lists) - vec_len l.ended
