-- Reports that say truly why each replica of a cluster is where it is, with no message to come.
use Rattle.std.specs.Prelude.{◌≡◌, ◌≤◌, true, ◌==◌, ◌&&◌, map, length, Some}
use Rattle.std.specs.List.{list_any, All}
use Rattle.hx_ids.specs.declared.SessionId.{SessionId}
use Rattle.hx_cluster.specs.declared.state.Cluster.{Cluster}
use Rattle.hx_cluster.specs.declared.planning.View.{View}
use Rattle.hx_cluster.specs.declared.planning.Target.{Target}
use Rattle.hx_cluster.specs.declared.planning.Full.{Full}
use Rattle.hx_cluster.specs.declared.planning.Report.{Report}
use Rattle.hx_cluster.specs.declared.planning.Finding.{Finding}
use Rattle.hx_cluster.specs.declared.planning.Finding.TheVariants as findings
use Rattle.hx_cluster.specs.Ends.{has_end, is_live, count_of, limit_at, model_of}
use Rattle.hx_cluster.specs.Reads.{live_shown, ideals_shown}
use Rattle.hx_best.specs.Targets.{all_targets}
use Rattle.hx_gen.specs.Candidates.{is_at_goal, hop_of}
use Rattle.hx_report.specs.Findings.{is_failed}

-- what a cluster shows if all is read at once
abbrev pub view_at : Cluster → View
view_at c = record { live = live_shown c; mail = c.mail; rows = c.rows; ideals = ideals_shown c }

-- a replica's next transition leads to a state that has as many holders as it may, and these are they
pub record IsFull (c : Cluster) (t : Target) (f : Full) : Type 0 where
  pub next : hop_of (model_of c.models c.resources t.part.resource) t ≡ Some f.candidate
  pub count : f.count ≡ count_of c t.part f.candidate.to
  pub bound : limit_at c t.part f.candidate.to ≡ Some f.bound
  pub reached : f.bound ≤ f.count
  pub holders : (s : SessionId) →
      list_any (λ h. h.0 == s.0) f.holders ≡ is_live c.live s && has_end c.rows c.mail t.part f.candidate.to s
  pub each : length f.holders ≡ f.count

-- a replica is at its goal, or in ERROR without a reset, or waits for a state that is full
abbrev pub IsReason : Cluster → Target → Finding → Type 0
IsReason c t findings.AtBest = is_at_goal (model_of c.models c.resources t.part.resource) t ≡ true
IsReason c t findings.Failed = is_failed (view_at c) t ≡ true
IsReason c t (findings.Full f) = IsFull c t f
IsReason c t _ = ⊥

-- a report has an entry for each replica and each wanted place of a live session, and each entry says why
pub record IsExplained (c : Cluster) (report : Report) : Type 0 where
  pub targets : map (λ e. e.target) report.entries ≡ all_targets c.models (view_at c)
  pub reasons : All (λ e. IsReason c e.target e.finding) report.entries
