use Rattle.std.proofs.Common.{◌≡◌, drop}
use Rattle.hx_print.specs.Rolls.{without_all}
use Rattle.hx_print.proofs.roll.end_all.Given as goal

-- the sessions that are left end too
abbrev pub invariant-loop-session : goal.invariant-loop-session
invariant-loop-session l = without_all (drop l.session-index l.sessions) l.live ≡ without_all l.sessions l.fn.live
