use Rattle.std.proofs.Common.{ap, rules, refl, ◌∙◌}
use Rattle.std.specs.Prelude.{slice_get}
use Rattle.hx_replicas.proofs.Altering.{only-one}
use Rattle.hx_replicas.proofs.Ledgers.{ledger}
use Rattle.hx_replicas.proofs.Handing.{slot-stands, slot-taken, runs-seen, listed-seen, IsLaidOut-given, given-plain}
use Rattle.hx_replicas.proofs.participants.Participant.give_one.Goals as goal

pub send-requires-clause-fits : goal.send-requires-clause-fits
send-requires-clause-fits g c κs within =
    let told = g.F.Factory.listed c.self.inside.factory in
    let xs = c.self.inside.slots.items.items in
    let i = c.args.place in
    let s = slot-stands c.self.invariant.0 c.args.message.now i (rw (← c.self.view_is) at c.requires.place) (rw (← c.self.view_is) at c.requires.accepted) in
    (told, λ y stands. rw (only-one (slice_get xs i) s.0 y s.1 stands) s.2.fit)

pub send-requires-clause-place : goal.send-requires-clause-place
send-requires-clause-place g c κs within =
    (slot-stands c.self.invariant.0 c.args.message.now c.args.place (rw (← c.self.view_is) at c.requires.place) (rw (← c.self.view_is) at c.requires.accepted)).2.lt

pub send-requires-clause-accepted : goal.send-requires-clause-accepted
send-requires-clause-accepted g c κs within y stands =
    let xs = c.self.inside.slots.items.items in
    let i = c.args.place in
    let s = slot-stands c.self.invariant.0 c.args.message.now i (rw (← c.self.view_is) at c.requires.place) (rw (← c.self.view_is) at c.requires.accepted) in
    ap (λ z. z.work) (only-one (slice_get xs i) s.0 y s.1 stands) ∙ s.2.work

pub invariant_of-self : goal.invariant_of-self
invariant_of-self g c =
    let s = slot-stands c.self.invariant.0 c.args.message.now c.args.place (rw (← c.self.view_is) at c.requires.place) (rw (← c.self.view_is) at c.requires.accepted) in
    (rw c.send.ensures.items (IsLaidOut-given s.2 c.self.invariant.0), c.send.ensures.indexed, c.send.ensures.room c.self.inside.spare c.self.invariant.2)

pub returns : goal.returns
returns g c =
    let k = g.F.H.Handler in
    let told = g.F.Factory.listed c.self.inside.factory in
    let s = slot-stands c.self.invariant.0 c.args.message.now c.args.place (rw (← c.self.view_is) at c.requires.place) (rw (← c.self.view_is) at c.requires.accepted) in
    let x = s.0 in
    let t = s.2 in
    let laid = IsLaidOut-given t c.self.invariant.0 in
    let job = c.send.ensures.job x s.1 in
    record {
      plain = rw (← c.self.view_is, c.send.ensures.items) (given-plain t _ refl);
      message = rw job refl;
      runs = rw (← c.self.view_is, job, slot-taken t) (runs-seen k x.handler);
      listed = rw (← c.self.view_is, job) (listed-seen k told x t.fit);
      rest = search rules;
      ledger = rw c.send.ensures.items (ledger k told _ _ _ laid);
    }
