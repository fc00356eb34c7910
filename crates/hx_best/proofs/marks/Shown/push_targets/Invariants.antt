use Rattle.std.proofs.Common.{◌≡◌, ◌++◌, take, get_or}
use Rattle.std.specs.List.{filter_map}
use Rattle.hx_best.specs.Places.{order_of, target_at}
use Rattle.hx_best.proofs.marks.Shown.push_targets.Given as goal

-- the targets of the visits so far
abbrev pub invariant-loop-visit : goal.invariant-loop-visit
invariant-loop-visit l =
    l.found.items ≡ l.initial.found.items
    ++ filter_map (λ v. target_at l.self.0 l.self.1 (get_or (order_of l.self.0) v.number (record { 0 = 0 }, record { 0 = 0 }))) (take l.visit-index l.visits)
