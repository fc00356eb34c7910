use Rattle.std.proofs.Common.{◌≡◌, ◌-◌, map}
use Rattle.std.specs.List.{list_all}
use Rattle.hx_lists.specs.Lists.{numbers_from}
use Rattle.hx_ids.specs.Words.{instance}
use Rattle.hx_cluster.specs.Steps.{session_of}
use Rattle.hx_agree.specs.Tests.{stationed, is_cared_at, are_cared_for}
use Rattle.hx_agree.proofs.untouched.are_cared_for.Given as goal

abbrev pub invariant-loop-place : goal.invariant-loop-place
invariant-loop-place g l =
    are_cared_for l.instances l.board.cluster (map stationed l.participants)
    ≡ list_all (λ i. is_cared_at l.board.cluster (map stationed l.participants) (session_of l.board.cluster (instance i))) (numbers_from l.place (l.instances - l.place))
