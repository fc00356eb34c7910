use Rattle.std.proofs.Common.{take}
use Rattle.hx_cluster.specs.Ends.{load_over}
use Rattle.hx_throttle.specs.Loads.{AreLoads}
use Rattle.hx_throttle.proofs.loads.shown_loads.Given as goal

-- the messages so far are counted
abbrev pub invariant-loop-message : goal.invariant-loop-message
invariant-loop-message l = AreLoads l.rules (load_over l.shown (take l.message-index l.mail)) l.loads
