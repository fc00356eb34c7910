use Rattle.std.proofs.Common.{◌≡◌, ◌+◌, ◌-◌, length}
use Rattle.std.specs.List.{list_all}
use Rattle.hx_lists.specs.Lists.{numbers_from}
use Rattle.hx_agree.specs.Tests.{at_each_of, at_each_part, is_settled_at}
use Rattle.hx_agree.proofs.settled.Known.are_parts_settled.Given as goal

abbrev pub invariant-loop-place : goal.invariant-loop-place
invariant-loop-place g l =
    at_each_part l.self.board.now.cluster (is_settled_at (1 + l.self.sent) l.self.spec.now.models l.self.board.now.cluster l.participant.plain l.self.session)
    ≡ list_all (at_each_of l.self.board.now.cluster (is_settled_at (1 + l.self.sent) l.self.spec.now.models l.self.board.now.cluster l.participant.plain l.self.session)) (numbers_from l.place (length l.self.board.now.cluster.resources - l.place))
