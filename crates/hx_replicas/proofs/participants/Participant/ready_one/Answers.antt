use Rattle.std.proofs.Common.{◌≡◌, set, arith, rules, refl, ap, is_none}
use Rattle.std.proofs.lemmas.Grind.{common_steps}
use Rattle.std.proofs.lemmas.Result.{err_from_is_err_and}
use Rattle.hx_replicas.specs.Participants.{made_ready}
use Rattle.std.specs.Vec.{with_item}
use Rattle.hx_replicas.specs.Layout.{IsLaidOut, plain_slot}
use Rattle.hx_replicas.specs.Indexes.{IsIndexed, HasRoom}
use Rattle.hx_replicas.specs.declared.indexed.Indexed.{Indexed}
use Rattle.hx_replicas.proofs.Ledgers.{ledger}
use Rattle.hx_replicas.proofs.Handing.{place-ready, slot-held, slot-stands, slot-taken, is_none-map, IsLaidOut-ready, slot-set, readied-plain}
use Rattle.hx_replicas.specs.declared.slots.Slot.{Slot}
use Rattle.hx_replicas.specs.Participants.{accepted_of}
use Rattle.hx_replicas.proofs.Altering.{stands-in, set-alter}
use Rattle.hx_replicas.proofs.Indexing.{indexed-same}
use Rattle.hx_replicas.proofs.participants.Participant.ready_one.Goals as goal
use Rattle.hx_replicas.proofs.participants.Participant.ready_one.Given.{Over}
use Rattle.hx_replicas.proofs.participants.Participant.ready_one.Goals.{After-ready}

pub index_mut-requires : goal.index_mut-requires
index_mut-requires g c =
    let stands = slot-stands c.self.invariant.0 c.args.message.now c.args.place (rw (← c.self.view_is) at c.requires.place) (rw (← c.self.view_is) at c.requires.accepted) in
    omega (arith, stands.2.lt, c.self.inside.slots.items.ok.0)

pub ready-requires-clause-fits : goal.ready-requires-clause-fits
ready-requires-clause-fits g c κs within =
    (slot-held c.self.invariant.0 c.args.message.now c.args.place c.index_mut.result.now (rw (← c.self.view_is) at c.requires.place) c.index_mut.ensures.value (rw (← c.self.view_is) at c.requires.accepted)).fit

pub ready-requires-clause-accepted : goal.ready-requires-clause-accepted
ready-requires-clause-accepted g c κs within =
    (slot-held c.self.invariant.0 c.args.message.now c.args.place c.index_mut.result.now (rw (← c.self.view_is) at c.requires.place) c.index_mut.ensures.value (rw (← c.self.view_is) at c.requires.accepted)).work

-- the slots are laid out and indexed with the readied one among them, whether or not its handler could be made
kept : (g : Over) (c : After-ready g)
    → let slots : Indexed g.row.F-H.Denot = record c.self.inside.slots { items = with_item c.self.inside.slots.items c.args.place c.ready.new.slot } in
    IsLaidOut g.F.H.Handler (g.F.Factory.listed c.ready.new.factory) slots.items.items (g.F.Factory.made c.ready.new.factory) (g.F.Factory.retired c.ready.new.factory)
    × IsIndexed slots
    × HasRoom c.self.inside.spare slots
kept g c =
    let now = c.ready.ensures in
    let x = c.index_mut.result.now in
    let y = c.ready.new.slot in
    let xs = c.self.inside.slots.items.items in
    let i = c.args.place in
    let t = slot-held c.self.invariant.0 c.args.message.now i x (rw (← c.self.view_is) at c.requires.place) c.index_mut.ensures.value (rw (← c.self.view_is) at c.requires.accepted) in (
      rw (now.listed, now.retired) (IsLaidOut-ready t y now.slot now.fits now.made c.self.invariant.0),
      indexed-same c.self.inside.slots _ c.self.invariant.1 i x y (stands-in xs i x t.lt t.at_i) (ap (λ (s : Slot g.row.F-H.Denot). s.part) now.slot) (ap (λ (s : Slot g.row.F-H.Denot). s.node) now.slot) (ap (λ (s : Slot g.row.F-H.Denot). accepted_of s.work) now.slot) (set-alter xs i y x t.lt t.at_i) refl (λ p. refl) refl (λ q. refl),
      record { items = c.self.invariant.2.items; queue = c.self.invariant.2.queue; places = c.self.invariant.2.places; numbers = c.self.invariant.2.numbers },
    )

pub invariant_of-self : goal.invariant_of-self
invariant_of-self g c = kept g (goal.at.invariant_of-self g c).After-ready

pub invariant_of-self-2 : goal.invariant_of-self-2
invariant_of-self-2 g c = kept g (goal.at.invariant_of-self-2 g c).After-ready

pub returns-in_err-ready : goal.returns-in_err-ready
returns-in_err-ready g c =
    let k = g.F.H.Handler in
    let xs = c.self.inside.slots.items.items in
    let y = c.ready.new.slot in
    let t = slot-held c.self.invariant.0 c.args.message.now c.args.place c.index_mut.result.now (rw (← c.self.view_is) at c.requires.place) c.index_mut.ensures.value (rw (← c.self.view_is) at c.requires.accepted) in
    let p = err_from_is_err_and c.from_residual.result c.from_residual.ensures.1 in
    let kept : set xs c.args.place y ≡ xs = rw c.in_err-ready.ensures.err (let at_i = t.at_i in let lt = t.lt in grind (arith, common_steps)) in
    let laid = IsLaidOut-ready t y c.ready.ensures.slot c.ready.ensures.fits c.ready.ensures.made c.self.invariant.0 in
    record {
      plain = search rules;
      answer = search rules;
      err = rw (p.1, ← c.self.view_is, kept, c.in_err-ready.ensures.not_tried) refl;
      made = search rules;
      place = search rules;
      rest = search rules;
      ledger = rw c.ready.ensures.retired (ledger k _ _ _ _ laid);
    }

pub returns : goal.returns
returns g c =
    let k = g.F.H.Handler in
    let m = c.args.message.now in
    let x = c.index_mut.result.now in
    let y = c.ready.new.slot in
    let t = slot-held c.self.invariant.0 m c.args.place x (rw (← c.self.view_is) at c.requires.place) c.index_mut.ensures.value (rw (← c.self.view_is) at c.requires.accepted) in
    let none : is_none (plain_slot k y).handler ≡ is_none y.handler = is_none-map _ y.handler in
    let plain : plain_slot k y ≡ made_ready (plain_slot k x) m (is_none (plain_slot k y).handler) = rw none c.in_ok-ready.ensures.plain in
    let shown = slot-set t y c.ready.ensures.slot in
    let laid = IsLaidOut-ready t y c.ready.ensures.slot c.ready.ensures.fits c.ready.ensures.made c.self.invariant.0 in
    record {
      plain = rw (← c.self.view_is, shown) (readied-plain t _ _ y (is_none (plain_slot k y).handler) refl c.ready.ensures.slot plain c.in_ok-ready.ensures.tried);
      answer = rw (← c.self.view_is, shown, none, slot-taken t) c.in_ok-ready.ensures.answer;
      err = search rules;
      made = search rules;
      place = place-ready (rw (← c.self.view_is) at c.requires.place) t y c.ready.ensures.slot;
      rest = search rules;
      ledger = rw c.ready.ensures.retired (ledger k _ _ _ _ laid);
    }
