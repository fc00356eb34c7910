use Rattle.std.proofs.Common.{ℕ, ◌==◌, List, subst}
use Rattle.std.specs.List.{IsDistinct}
use Rattle.std.specs.List.Sorted.{IsStrictlyIncreasing}
use Rattle.hx_best.proofs.Sessions.{once_shown, once_sorted}
use Rattle.hx_best.proofs.lookups.are_once.Goals as goal

pub returns : goal.returns
returns c rises =
    subst (λ (xs : List ℕ). IsDistinct (λ a b. a == b) xs) c.in_ok-numbers.ensures
    (once_sorted c.in_ok-numbers.numbers.items c.sort.new.self.items c.in_ok-sort.ensures.permutation (subst IsStrictlyIncreasing c.as_slice.ensures.value (c.rise.ensures rises)))

pub returns-then-are_rising : goal.returns-then-are_rising
returns-then-are_rising c = λ yes. once_shown c.args.live.now (c.are_rising.ensures c.if-are_rising.true)
