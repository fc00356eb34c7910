use Rattle.std.proofs.Common.{◌≡◌, rules, refl, sym, ap, None, Some}
use Rattle.std.specs.List.{position}
use Rattle.hx_replicas.specs.Layout.{has_part}
use Rattle.hx_replicas.specs.Participants.{accepted_of}
use Rattle.hx_replicas.proofs.Altering.{stands-in, set-alter}
use Rattle.hx_replicas.proofs.Indexing.{indexed-same}
use Rattle.hx_replicas.proofs.Ledgers.{ledger}
use Rattle.hx_replicas.proofs.Finishing.{out-found, coming, room-coming, IsLaidOut-restored, finish-slots}
use Rattle.hx_replicas.proofs.participants.Participant.finish.Goals as goal

pub unreachable-requires : goal.unreachable-requires
unreachable-requires g c =
    let xs = c.self.inside.slots.items.items in
    let m = c.args.done.message in
    let is : c.message.result.now ≡ m = c.message.ensures in
    let none : position (has_part m.part) xs ≡ None = (cc) in
    out-found g.F.H.Handler xs m.part m _ (rw (← c.self.view_is) at c.requires.out) none

pub keep-kept-requires-clause-room : goal.keep-kept-requires-clause-room
keep-kept-requires-clause-room g c κs within =
    let is : c.message.result.now ≡ c.args.done.message = c.message.ensures in
    let back = coming c.self.invariant.0 c.args.done.message c.in-Some.place c.index_mut-slot.result.now c.into_parts-handler.result.1 c.args.done.handler (cc) c.index_mut-slot.ensures.value c.into_parts-handler.ensures.handler (rw (← c.self.view_is) at c.requires.out) in
    room-coming back c.self.invariant.0

pub bring-requires : goal.bring-requires
bring-requires g c =
    let is : c.message.result.now ≡ c.args.done.message = c.message.ensures in
    let back = coming c.self.invariant.0 c.args.done.message c.in-Some.place c.index_mut-slot.result.now c.into_parts-handler.result.1 c.args.done.handler (cc) c.index_mut-slot.ensures.value c.into_parts-handler.ensures.handler (rw (← c.self.view_is) at c.requires.out) in
    back.bare

pub invariant_of-self : goal.invariant_of-self
invariant_of-self g c =
    let is : c.message.result.now ≡ c.args.done.message = c.message.ensures in
    let back = coming c.self.invariant.0 c.args.done.message c.in-Some.place c.index_mut-slot.result.now c.into_parts-handler.result.1 c.args.done.handler (cc) c.index_mut-slot.ensures.value c.into_parts-handler.ensures.handler (rw (← c.self.view_is) at c.requires.out) in
    let seen = c.into_parts-handler.ensures.handler in
    let now = c.keep-kept.ensures in
    let laid = IsLaidOut-restored g.F.H.Handler (g.F.Factory.listed c.self.inside.factory) back c.end-end.result c.keep-kept.result (rw (c.end-end.ensures, seen) c.into_parts-handler.ensures.out.handler) (rw seen (rw (← c.self.view_is) at c.requires.listed)) now.kept now.retired c.self.invariant.0 in
    let xs = c.self.inside.slots.items.items in
    let i = c.in-Some.place in
    let x = c.index_mut-slot.result.now in
    let idle : None ≡ accepted_of x.work = ap accepted_of (sym back.work) in (
      rw (c.bring.ensures, now.made, now.listed) laid,
      indexed-same c.self.inside.slots _ c.self.invariant.1 i x c.bring.new.slot (stands-in xs i x back.lt back.at_i) (rw c.bring.ensures refl) (rw c.bring.ensures refl) (rw c.bring.ensures idle) (set-alter xs i c.bring.new.slot x back.lt back.at_i) refl (λ p. refl) refl (λ q. refl),
      record { items = c.self.invariant.2.items; queue = c.self.invariant.2.queue; places = c.self.invariant.2.places; numbers = c.self.invariant.2.numbers },
    )

pub returns : goal.returns
returns g c =
    let k = g.F.H.Handler in
    let told = g.F.Factory.listed c.self.inside.factory in
    let xs = c.self.inside.slots.items.items in
    let m = c.args.done.message in
    let is : c.message.result.now ≡ m = c.message.ensures in
    let i = c.in-Some.place in
    let x = c.index_mut-slot.result.now in
    let e : position (has_part m.part) xs ≡ Some i = (cc) in
    let h = c.into_parts-handler.result.1 in
    let seen = c.into_parts-handler.ensures.handler in
    let back = coming c.self.invariant.0 m i x h c.args.done.handler e c.index_mut-slot.ensures.value seen (rw (← c.self.view_is) at c.requires.out) in
    let t = c.end-end.result in
    let now = c.keep-kept.ensures in
    let laid = IsLaidOut-restored k told back t c.keep-kept.result (rw (c.end-end.ensures, seen) c.into_parts-handler.ensures.out.handler) (rw seen (rw (← c.self.view_is) at c.requires.listed)) now.kept now.retired c.self.invariant.0 in
    record {
      plain = rw (← c.self.view_is, c.bring.ensures, now.tried, ← c.end-end.ensures, ← seen, finish-slots k xs m.part i t x c.keep-kept.result h c.self.invariant.0.distinct e back.at_i now.kept) refl;
      retired = search rules;
      instance = search rules;
      spare = search rules;
      made = search rules;
      later = search rules;
      listed = search rules;
      ledger = rw (c.bring.ensures, now.made) (ledger k told _ _ _ laid);
    }
