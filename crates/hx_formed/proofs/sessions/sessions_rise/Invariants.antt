use Rattle.std.proofs.Common.{◌≡◌, None, drop}
use Rattle.hx_formed.specs.Sessions.{sessions_rise}
use Rattle.hx_formed.proofs.sessions.sessions_rise.Given as goal

-- the sessions so far rise
abbrev pub invariant-loop-shown : goal.invariant-loop-shown
invariant-loop-shown l = sessions_rise l.last (drop l.shown-index l.live) ≡ sessions_rise None l.live
