use Rattle.std.proofs.Common.{◌==◌, None, length, take, get_or}
use Rattle.std.specs.List.{list_any}
use Rattle.hx_ids.specs.declared.SessionId.{SessionId}
use Rattle.hx_ids.specs.declared.InstanceId.{InstanceId}
use Rattle.hx_best.specs.Places.{order_of}
use Rattle.hx_best.specs.Visits.{Adds}
use Rattle.hx_best.proofs.marks.Shown.visit_rows.Given as goal

-- the sessions of the rows so far are visited
abbrev pub invariant-loop-row : goal.invariant-loop-row
invariant-loop-row l =
    (d : SessionId × InstanceId) → Adds (length (order_of l.self.0)) (λ k. list_any (λ r. (get_or (order_of l.self.0) k d).0.0 == r.session.0) (take l.row-index l.rows)) None l.initial.visits l.visits
