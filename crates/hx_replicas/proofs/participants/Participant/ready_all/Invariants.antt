use Rattle.std.proofs.Common.{◌≡◌, Bool, List, length}
use Rattle.hx_replicas.specs.Ledger.{IsBalanced}
use Rattle.hx_replicas.specs.Batches.{IsReadied}
use Rattle.hx_replicas.proofs.participants.Participant.ready_all.Given as goal

abbrev pub invariant-loop-message : goal.invariant-loop-message
invariant-loop-message g l =
    (fs : List Bool) × IsReadied l.fn.self l.self l.messages fs × (length fs ≡ l.message-index)
    × IsBalanced l.self.made l.self.retired l.self.plain
