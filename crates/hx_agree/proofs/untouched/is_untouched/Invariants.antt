use Rattle.std.proofs.Common.{◌≡◌, ◌-◌, length}
use Rattle.std.specs.List.{list_all}
use Rattle.hx_lists.specs.Lists.{numbers_from}
use Rattle.hx_agree.specs.Tests.{at_each_of, at_each_part, is_untouched_at}
use Rattle.hx_agree.proofs.untouched.is_untouched.Given as goal

abbrev pub invariant-loop-place : goal.invariant-loop-place
invariant-loop-place l =
    at_each_part l.board.cluster (is_untouched_at l.board.cluster l.session)
    ≡ list_all (at_each_of l.board.cluster (is_untouched_at l.board.cluster l.session)) (numbers_from l.place (length l.board.cluster.resources - l.place))
