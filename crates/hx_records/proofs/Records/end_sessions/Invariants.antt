use Rattle.std.proofs.Common.{◌≡◌, ◌≤◌, ◌+◌, ◌==◌, true, drop}
use Rattle.std.specs.List.{list_all}
use Rattle.hx_lists.specs.Lists.{count}
use Rattle.hx_ids.specs.declared.SessionId.{SessionId}
use Rattle.hx_cluster.specs.Ends.{is_live}
use Rattle.hx_cluster.specs.Steps.{without_all}
use Rattle.hx_safe.proofs.Whole.{IsWhole}
use Rattle.hx_records.proofs.Records.end_sessions.Given as goal

-- what is left to take out is live, and leaves the cluster without all of them
abbrev pub invariant-loop-session : goal.invariant-loop-session
invariant-loop-session l = record {
  whole : IsWhole l.self;
  after : without_all l.self (drop l.session-index l.sessions) ≡ without_all l.fn.self l.sessions;
  live : list_all (is_live l.self.live) (drop l.session-index l.sessions) ≡ true;
  distinct : (s : SessionId) → count (λ x. x.0 == s.0) (drop l.session-index l.sessions) ≤ 1;
  change : l.self.change ≡ l.fn.self.change + l.session-index;
}
