use Rattle.std.proofs.Common.{◌≡◌, drop}
use Rattle.hx_formed.specs.Sessions.{instances_rise}
use Rattle.hx_formed.proofs.sessions.instances_rise.Given as goal

-- the instances so far rise
abbrev pub invariant-loop-shown : goal.invariant-loop-shown
invariant-loop-shown l = instances_rise l.instances l.from (drop l.shown-index l.live) ≡ instances_rise l.instances 0 l.live
