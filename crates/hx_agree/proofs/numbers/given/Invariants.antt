use Rattle.std.proofs.Common.{◌≡◌, ◌+◌}
use Rattle.std.specs.List.{sum_by}
use Rattle.hx_agree.specs.Numbers.{given_in}
use Rattle.hx_agree.proofs.numbers.given.Given as goal

abbrev pub invariant-loop-told : goal.invariant-loop-told
invariant-loop-told l = l.sum + sum_by (given_in l.numbered) l.told-iterator ≡ sum_by (given_in l.numbered) l.fn.entries.items
