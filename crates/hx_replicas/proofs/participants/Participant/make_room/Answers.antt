use Rattle.hx_replicas.proofs.Ledgers.{ledger}
use Rattle.hx_replicas.proofs.participants.Participant.make_room.Goals as goal

pub returns-then-saturating_add-ge-MOST-clause-ledger : goal.returns-then-saturating_add-ge-MOST-clause-ledger
returns-then-saturating_add-ge-MOST-clause-ledger g c = rw (← c.self.view_is) (ledger g.F.H.Handler (g.F.Factory.listed c.self.inside.factory) c.self.inside.slots.items.items _ _ c.self.invariant.0)

pub returns-in_err-reserve-clause-ledger : goal.returns-in_err-reserve-clause-ledger
returns-in_err-reserve-clause-ledger g c =
    rw c.reserve.ensures.items (ledger g.F.H.Handler (g.F.Factory.listed c.self.inside.factory) c.self.inside.slots.items.items _ _ c.self.invariant.0)

pub returns-clause-ledger : goal.returns-clause-ledger
returns-clause-ledger g c =
    rw c.reserve.ensures.items (ledger g.F.H.Handler (g.F.Factory.listed c.self.inside.factory) c.self.inside.slots.items.items _ _ c.self.invariant.0)

pub invariant_of-self : goal.invariant_of-self
invariant_of-self g c = (rw c.reserve.ensures.items c.self.invariant.0, c.reserve.ensures.indexed, c.reserve.ensures.spare c.self.inside.spare c.self.invariant.2)
