use Rattle.std.proofs.Common.{◌≡◌, ◌-◌}
use Rattle.std.specs.List.{list_all}
use Rattle.hx_lists.specs.Lists.{numbers_from}
use Rattle.hx_ids.specs.Words.{part}
use Rattle.hx_cluster.specs.Ends.{parts_of}
use Rattle.hx_agree.specs.Tests.{at_each_of, is_untouched_at}
use Rattle.hx_agree.proofs.untouched.is_untouched_of.Given as goal

abbrev pub invariant-loop-index : goal.invariant-loop-index
invariant-loop-index l =
    at_each_of l.board.cluster (is_untouched_at l.board.cluster l.session) l.resource.0
    ≡ list_all (λ n. is_untouched_at l.board.cluster l.session (part l.resource.0 n)) (numbers_from l.index (parts_of l.board.cluster.resources l.resource - l.index))
