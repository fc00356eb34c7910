use Rattle.std.proofs.Common.{◌≡◌, take}
use Rattle.hx_sim.specs.Viewing.{rows_seen}
use Rattle.hx_sim.proofs.rows.rows_seen.Given as goal

abbrev pub invariant-loop-session : goal.invariant-loop-session
invariant-loop-session l = l.seen.items ≡ rows_seen l.board.cluster (take l.session-index l.shown)
