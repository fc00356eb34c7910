use Rattle.std.proofs.Common.{◌≡◌, ◌++◌, ℕ, ◌≤◌, true, map, take, get_or}
use Rattle.std.specs.Prelude.{filter}
use Rattle.std.specs.List.{list_any}
use Rattle.hx_lists.specs.Lists.{count}
use Rattle.hx_cluster.specs.declared.state.Row.{Row}
use Rattle.hx_best.specs.Wants.{Listed, is_wanted}
use Rattle.hx_best.specs.Goals.{is_eligible}
use Rattle.hx_best.specs.Targets.{target}
use Rattle.hx_best.specs.Places.{order_of, rows_at}
use Rattle.hx_best.specs.Numbers.{has_number}
use Rattle.hx_best.specs.Still.{is_on}
use Rattle.hx_best.proofs.marks.Shown.add_entries.Given as goal

-- the targets of the list so far, whose places were noted of rows of entries, and how many of it can take a state
abbrev pub invariant-loop-place : goal.invariant-loop-place
invariant-loop-place l =
    let x = l.self.0 in record {
      found : l.found.items ≡ l.initial.found.items ++ map (target x.models x.view x.resource l.self.1) (filter (λ e. is_wanted (Listed (take l.place l.list)) e.1) (order_of x));
      noted : (j : ℕ) (r : Row) → has_number l.met j ≡ true → list_any (λ i. is_on x.view.live i (get_or (rows_at x l.self.1) j r)) l.list ≡ true;
      rank : l.rank ≡ count (is_eligible x.view l.self.1) (take l.place l.list);
      few : l.rank ≤ l.place;
    }
