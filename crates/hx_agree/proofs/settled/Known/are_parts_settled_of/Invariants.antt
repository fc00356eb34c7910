use Rattle.std.proofs.Common.{◌≡◌, ◌+◌, ◌-◌}
use Rattle.std.specs.List.{list_all}
use Rattle.hx_lists.specs.Lists.{numbers_from}
use Rattle.hx_ids.specs.Words.{part}
use Rattle.hx_cluster.specs.Ends.{parts_of}
use Rattle.hx_agree.specs.Tests.{at_each_of, is_settled_at}
use Rattle.hx_agree.proofs.settled.Known.are_parts_settled_of.Given as goal

abbrev pub invariant-loop-index : goal.invariant-loop-index
invariant-loop-index g l =
    at_each_of l.self.board.now.cluster (is_settled_at (1 + l.self.sent) l.self.spec.now.models l.self.board.now.cluster l.participant.plain l.self.session) l.resource.0
    ≡ list_all (λ n. is_settled_at (1 + l.self.sent) l.self.spec.now.models l.self.board.now.cluster l.participant.plain l.self.session (part l.resource.0 n)) (numbers_from l.index (parts_of l.self.board.now.cluster.resources l.resource - l.index))
