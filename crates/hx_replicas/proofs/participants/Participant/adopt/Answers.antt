use Rattle.std.proofs.Common.{map, arith, refl, ap, ◌∙◌, Vec}
use Rattle.std.specs.HashMap.{get}
use Rattle.hx_cluster.specs.Ends.{part_eq}
use Rattle.hx_replicas.proofs.Indexing.{indexed-wiped}
use Rattle.hx_replicas.specs.Layout.{wiped}
use Rattle.hx_replicas.proofs.Ledgers.{ledger}
use Rattle.hx_replicas.proofs.Wiping.{IsLaidOut-wiped, map-emptied, none_out-plain, quiet-emptied}
use Rattle.hx_replicas.proofs.participants.Participant.adopt.Goals as goal

pub wipe_all-requires-clause-none_out : goal.wipe_all-requires-clause-none_out
wipe_all-requires-clause-none_out g c κs within = none_out-plain g.F.H.Handler c.self.inside.slots.items.items (rw (← c.self.view_is) at c.requires)

pub invariant_of-self : goal.invariant_of-self
invariant_of-self g c =
    let xs = c.self.inside.slots.items.items in
    let items = ap (λ (v : Vec _ _). v.items) c.forget_all.ensures.items ∙ c.wipe_all.ensures.slots in (
      rw (items, c.wipe_all.ensures.made, c.wipe_all.ensures.retired, c.wipe_all.ensures.listed) (IsLaidOut-wiped xs c.self.invariant.0),
      indexed-wiped c.self.inside.slots _ c.self.invariant.1 items c.forget_all.ensures.queue (λ p. ap (λ m. get part_eq m p) c.forget_all.ensures.places) c.forget_all.ensures.numbers,
      c.forget_all.ensures.room c.self.inside.spare (record { items = omega (arith, c.self.invariant.2.items, c.wipe_all.ensures.len, c.wipe_all.ensures.capacity); queue = c.self.invariant.2.queue; places = c.self.invariant.2.places; numbers = c.self.invariant.2.numbers }),
    )

pub returns-clause-plain : goal.returns-clause-plain
returns-clause-plain g c =
    rw (c.forget_all.ensures.items, c.wipe_all.ensures.slots, c.wipe_all.ensures.tried, ← c.self.view_is, map-emptied g.F.H.Handler c.self.inside.slots.items.items) refl

pub returns-clause-quiet : goal.returns-clause-quiet
returns-clause-quiet g c = rw (c.forget_all.ensures.items, c.wipe_all.ensures.slots) (quiet-emptied g.F.H.Handler c.self.inside.slots.items.items)

pub returns-clause-ledger : goal.returns-clause-ledger
returns-clause-ledger g c =
    rw (c.forget_all.ensures.items, c.wipe_all.ensures.slots, c.wipe_all.ensures.made, c.wipe_all.ensures.retired)
    (ledger g.F.H.Handler (g.F.Factory.listed c.self.inside.factory) (map wiped c.self.inside.slots.items.items) _ _ (IsLaidOut-wiped c.self.inside.slots.items.items c.self.invariant.0))
