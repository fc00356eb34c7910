use Rattle.std.proofs.Common.{◌≡◌, drop}
use Rattle.hx_sessions.proofs.Living.{gone}
use Rattle.hx_sessions.proofs.Sessions.expire.Given as goal

abbrev pub invariant-loop-session : goal.invariant-loop-session
invariant-loop-session l =
    (gone (drop l.session-index l.session-items) l.self.live ≡ gone l.session-items l.fn.self.live)
    × (l.self.next ≡ l.fn.self.next)
