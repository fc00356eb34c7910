use Rattle.std.proofs.Common.{◌≡◌, ℕ, ◌≤◌, true, drop, get_or}
use Rattle.std.specs.List.{list_any}
use Rattle.hx_cluster.specs.declared.state.Row.{Row}
use Rattle.hx_best.specs.Places.{rows_at}
use Rattle.hx_best.specs.Numbers.{has_number}
use Rattle.hx_best.specs.Still.{list_stands, is_on}
use Rattle.hx_best.proofs.marks.Shown.list_stands.Given as goal

-- the entries so far stand, and what was noted are places of rows of entries
abbrev pub invariant-loop-instance : goal.invariant-loop-instance
invariant-loop-instance l = record {
  stand : list_stands l.self.0 l.self.1 l.list 0 ≡ list_stands l.self.0 l.self.1 (drop l.instance-index l.list) l.rank;
  noted : (j : ℕ) (r : Row) → has_number l.met j ≡ true → list_any (λ i. is_on l.self.0.view.live i (get_or (rows_at l.self.0 l.self.1) j r)) l.list ≡ true;
  few : l.rank ≤ l.instance-index;
}
