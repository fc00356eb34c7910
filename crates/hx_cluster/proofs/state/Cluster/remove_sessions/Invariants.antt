use Rattle.std.proofs.Common.{◌≡◌, ◌+◌, drop}
use Rattle.hx_cluster.specs.Steps.{without_all}
use Rattle.hx_cluster.proofs.state.Cluster.remove_sessions.Given as goal

-- what is left to take out leaves the cluster without all of them
abbrev pub invariant-loop-session : goal.invariant-loop-session
invariant-loop-session l = record {
  after : without_all l.self (drop l.session-index l.sessions) ≡ without_all l.fn.self l.sessions;
  change : l.self.change ≡ l.fn.self.change + l.session-index;
}
