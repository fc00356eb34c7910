use Rattle.std.proofs.Common.{◌≡◌, ◌+◌, drop}
use Rattle.std.specs.List.{list_all}
use Rattle.hx_agree.specs.Tests.{are_slots_settled, is_settled_at}
use Rattle.hx_agree.proofs.settled.Known.are_slots_settled.Given as goal

abbrev pub invariant-loop-place : goal.invariant-loop-place
invariant-loop-place g l =
    are_slots_settled (1 + l.self.sent) l.self.spec.now.models l.self.board.now.cluster l.participant.plain l.self.session
    ≡ list_all (λ x. is_settled_at (1 + l.self.sent) l.self.spec.now.models l.self.board.now.cluster l.participant.plain l.self.session x.part) (drop l.place l.participant.plain.slots)
