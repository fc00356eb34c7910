use Rattle.std.proofs.Common.{◌≡◌, ℕ, ◌<◌, ◌≤◌, true, take, length, get_or}
use Rattle.hx_lists.specs.Lists.{count}
use Rattle.hx_ids.specs.declared.SessionId.{SessionId}
use Rattle.hx_ids.specs.declared.InstanceId.{InstanceId}
use Rattle.hx_best.specs.Wants.{Listed}
use Rattle.hx_best.specs.Goals.{is_eligible}
use Rattle.hx_best.specs.Places.{mark_of, order_of}
use Rattle.hx_best.specs.Visits.{mark_at, is_visited}
use Rattle.hx_best.proofs.marks.Shown.mark_list.Given as goal

-- the marks of the list so far, and how many of it can take a state
abbrev pub invariant-loop-place : goal.invariant-loop-place
invariant-loop-place l = record {
  marked : (k : ℕ) (d : SessionId × InstanceId) → k < length (order_of l.self.0) → mark_at l.visits k ≡ mark_of l.self.0 l.self.1 (Listed (take l.place l.list)) (get_or (order_of l.self.0) k d).1;
  within : (k : ℕ) → is_visited l.visits k ≡ true → k < length (order_of l.self.0);
  rank : l.rank ≡ count (is_eligible l.self.0.view l.self.1) (take l.place l.list);
  few : l.rank ≤ l.place;
}
