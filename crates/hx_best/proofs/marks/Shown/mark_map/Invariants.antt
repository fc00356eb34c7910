use Rattle.std.proofs.Common.{◌≡◌, ℕ, ◌<◌, true, take, length, get_or}
use Rattle.hx_ids.specs.declared.SessionId.{SessionId}
use Rattle.hx_ids.specs.declared.InstanceId.{InstanceId}
use Rattle.hx_best.specs.Wants.{Mapped}
use Rattle.hx_best.specs.Places.{mark_of, order_of}
use Rattle.hx_best.specs.Visits.{mark_at, is_visited}
use Rattle.hx_best.proofs.marks.Shown.mark_map.Given as goal

-- the marks of the map so far
abbrev pub invariant-loop-instance : goal.invariant-loop-instance
invariant-loop-instance l = record {
  marked : (k : ℕ) (d : SessionId × InstanceId) → k < length (order_of l.self.0) → mark_at l.visits k ≡ mark_of l.self.0 l.self.1 (Mapped (take l.instance-index l.map)) (get_or (order_of l.self.0) k d).1;
  within : (k : ℕ) → is_visited l.visits k ≡ true → k < length (order_of l.self.0);
}
