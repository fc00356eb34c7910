use Rattle.std.proofs.Common.{◌≡◌, ◌<◌, ◌-◌, ◌++◌, ◌∷◌, [], arith, rules, refl, true, None, Some, ap, ◌∙◌, length, get_or}
use Rattle.std.specs.Prelude.{slice_get}
use Rattle.std.specs.List.{position}
use Rattle.hx_model.specs.Model.{dropped}
use Rattle.hx_replicas.specs.declared.slots.Work.TheVariants.{Idle}
use Rattle.hx_replicas.specs.Participants.{is_session, slot_fault}
use Rattle.hx_replicas.specs.Layout.{has_part, taken, fresh}
use Rattle.hx_replicas.specs.Indexes.{alter}
use Rattle.hx_replicas.proofs.Altering.{stands-in, only-one}
use Rattle.hx_replicas.proofs.Searching.{place-in}
use Rattle.hx_replicas.proofs.Placing.{unused-none, slot-none, slot-found}
use Rattle.hx_replicas.proofs.Ledgers.{ledger}
use Rattle.hx_replicas.proofs.Indexing.{room-less, room-next}
use Rattle.hx_replicas.proofs.Delivering.{IsLaidOut-accept, accept-held, IsLaidOut-fresh, accept-new, counts-from_none, idle-from_none}
use Rattle.hx_replicas.proofs.participants.Participant.deliver.Goals as goal

pub returns-then-not-is_mine-clause-ledger : goal.returns-then-not-is_mine-clause-ledger
returns-then-not-is_mine-clause-ledger g c =
    rw (← c.self.view_is) (ledger g.F.H.Handler (g.F.Factory.listed c.self.inside.factory) c.self.inside.slots.items.items _ _ c.self.invariant.0)

pub returns-in-Some-refusal : goal.returns-in-Some-refusal
returns-in-Some-refusal g c =
    let mine : is_session c.self.inside.session c.args.message.now.session ≡ true = (cc) in
    record {
      decides = rw (← c.self.view_is, mine, slot-none g.F.H.Handler c.self.inside.slots.items.items c.args.message.now.part (cc), ← c.refusal.ensures) c.in-Some-refusal.is;
      ok = search rules;
      spare = search rules;
      err = search rules;
      ledger = rw (← c.self.view_is) (ledger g.F.H.Handler (g.F.Factory.listed c.self.inside.factory) c.self.inside.slots.items.items _ _ c.self.invariant.0);
    }

pub accept_first-requires-clause-room : goal.accept_first-requires-clause-room
accept_first-requires-clause-room g c =
    let spare : 0 < c.self.inside.spare = rw (← c.self.view_is) at c.requires.spare in
    room-less c.self.inside.slots 1 c.self.inside.spare (omega (arith, spare)) c.self.invariant.2

pub invariant_of-self : goal.invariant_of-self
invariant_of-self g c =
    let m = c.args.message.now in
    let n = c.accept_first.ensures.items.0 in
    let mine : is_session c.self.inside.session m.session ≡ true = (cc) in
    let spare : 0 < c.self.inside.spare = rw (← c.self.view_is) at c.requires.spare in
    let none : slot_fault Idle dropped (record { 0 = 0 }) None m ≡ None = rw (← c.refusal.ensures) c.in_default-refusal.is in
    let new = unused-none g.F.H.Handler c.self.inside.slots.items.items m.part (cc) in
    let laid = IsLaidOut-fresh g.F.H.Handler (g.F.Factory.listed c.self.inside.factory) c.self.inside.slots.items.items m n new (counts-from_none Idle dropped (record { 0 = 0 }) None m none) (c.requires.fits (rw (← c.self.view_is) mine)).sound c.self.invariant.0 in (
      rw c.accept_first.ensures.items.1 laid,
      c.accept_first.ensures.indexed,
      c.accept_first.ensures.room (c.self.inside.spare - 1) (room-next c.self.inside.slots c.self.inside.spare spare c.self.invariant.2),
    )

pub returns-in_default : goal.returns-in_default
returns-in_default g c =
    let k = g.F.H.Handler in
    let told = g.F.Factory.listed c.self.inside.factory in
    let xs = c.self.inside.slots.items.items in
    let m = c.args.message.now in
    let n = c.accept_first.ensures.items.0 in
    let e : position (has_part m.part) xs ≡ None = (cc) in
    let mine : is_session c.self.inside.session m.session ≡ true = (cc) in
    let none : slot_fault Idle dropped (record { 0 = 0 }) None m ≡ None = rw (← c.refusal.ensures) c.in_default-refusal.is in
    let new = unused-none k xs m.part e in
    let laid = IsLaidOut-fresh k told xs m n new (counts-from_none Idle dropped (record { 0 = 0 }) None m none) (c.requires.fits (rw (← c.self.view_is) mine)).sound c.self.invariant.0 in
    record {
      decides = rw (← c.self.view_is, mine, slot-none k xs m.part e) none;
      ok = rw (← c.self.view_is, c.accept_first.ensures.items.1, accept-new k xs m n new) refl;
      spare = search rules;
      err = search rules;
      ledger = rw c.accept_first.ensures.items.1 (ledger k told (xs ++ fresh m n ∷ []) _ _ laid);
    }

pub returns-in-Some-refusal-2 : goal.returns-in-Some-refusal-2
returns-in-Some-refusal-2 g c =
    let k = g.F.H.Handler in
    let xs = c.self.inside.slots.items.items in
    let i = c.in-Some.place in
    let x = c.index-slot.result.now in
    let mine : is_session c.self.inside.session c.args.message.now.session ≡ true = (cc) in
    let at_i : x ≡ get_or xs i x = c.index-slot.ensures in
    record {
      decides = rw (← c.self.view_is, mine, slot-found k xs c.args.message.now.part i x (cc) at_i, ← c.refusal-2.ensures) c.in-Some-refusal-2.is;
      ok = search rules;
      spare = search rules;
      err = search rules;
      ledger = rw (← c.self.view_is) (ledger k (g.F.Factory.listed c.self.inside.factory) xs _ _ c.self.invariant.0);
    }

pub accept-requires-clause-room : goal.accept-requires-clause-room
accept-requires-clause-room g c =
    let spare : 0 < c.self.inside.spare = rw (← c.self.view_is) at c.requires.spare in
    room-less c.self.inside.slots 1 c.self.inside.spare (omega (arith, spare)) c.self.invariant.2

pub accept-requires-clause-place : goal.accept-requires-clause-place
accept-requires-clause-place g c = place-in (has_part c.args.message.now.part) c.self.inside.slots.items.items c.in-Some.place (cc)

pub accept-requires-clause-idle : goal.accept-requires-clause-idle
accept-requires-clause-idle g c y stands =
    let xs = c.self.inside.slots.items.items in
    let m = c.args.message.now in
    let i = c.in-Some.place in
    let x = c.index-slot.result.now in
    let lt : i < length xs = place-in (has_part m.part) xs i (cc) in
    let none : slot_fault x.work x.state x.last x.initial m ≡ None = rw (← c.refusal-2.ensures) c.in_default-refusal-2.is in
    ap (λ z. z.work) (only-one (slice_get xs i) x y (stands-in xs i x lt c.index-slot.ensures) stands) ∙ idle-from_none x.work x.state x.last x.initial m none

pub invariant_of-self-2 : goal.invariant_of-self-2
invariant_of-self-2 g c =
    let m = c.args.message.now in
    let n = c.accept.ensures.items.0 in
    let mine : is_session c.self.inside.session m.session ≡ true = (cc) in
    let spare : 0 < c.self.inside.spare = rw (← c.self.view_is) at c.requires.spare in
    let fits = c.requires.fits (rw (← c.self.view_is) mine) in
    let laid = IsLaidOut-accept g.F.H.Handler (g.F.Factory.listed c.self.inside.factory) c.self.inside.slots.items.items m n c.in-Some.place c.index-slot.result.now (cc) c.index-slot.ensures (rw (← c.refusal-2.ensures) c.in_default-refusal-2.is) fits.sound (rw (← c.self.view_is) at fits.like) c.self.invariant.0 in (
      rw c.accept.ensures.items.1 laid,
      c.accept.ensures.indexed,
      c.accept.ensures.room (c.self.inside.spare - 1) (room-next c.self.inside.slots c.self.inside.spare spare c.self.invariant.2),
    )

pub returns : goal.returns
returns g c =
    let told = g.F.Factory.listed c.self.inside.factory in
    let xs = c.self.inside.slots.items.items in
    let m = c.args.message.now in
    let n = c.accept.ensures.items.0 in
    let i = c.in-Some.place in
    let x = c.index-slot.result.now in
    let e : position (has_part m.part) xs ≡ Some i = (cc) in
    let at_i : x ≡ get_or xs i x = c.index-slot.ensures in
    let mine : is_session c.self.inside.session m.session ≡ true = (cc) in
    let none : slot_fault x.work x.state x.last x.initial m ≡ None = rw (← c.refusal-2.ensures) c.in_default-refusal-2.is in
    let fits = c.requires.fits (rw (← c.self.view_is) mine) in
    let laid = IsLaidOut-accept g.F.H.Handler told xs m n i x e at_i none fits.sound (rw (← c.self.view_is) at fits.like) c.self.invariant.0 in
    record {
      decides = rw (← c.self.view_is, mine, slot-found g.F.H.Handler xs m.part i x e at_i, ← c.refusal-2.ensures) c.in_default-refusal-2.is;
      ok = rw (← c.self.view_is, c.accept.ensures.items.1, accept-held g.F.H.Handler xs m n i x c.self.invariant.0.distinct e at_i) refl;
      spare = search rules;
      err = search rules;
      ledger = rw c.accept.ensures.items.1 (ledger g.F.H.Handler told (alter (taken m n) i xs) _ _ laid);
    }
