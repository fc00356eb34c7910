use Rattle.std.proofs.Common.{◌≡◌, ◌+◌, ◌<◌, length, get_or, drop, refl, ◌∙◌, arith}
use Rattle.std.proofs.lemmas.Grind.{common_steps}
use Rattle.std.specs.List.{sum_by}
use Rattle.std.proofs.lemmas.List.{at_drop_all}
use Rattle.std.proofs.lemmas.List.Edits.{map_over_more}
use Rattle.hx_replicas.specs.Ledger.{lent, in_place}
use Rattle.hx_replicas.specs.Layout.{wiped, count_of}
use Rattle.hx_replicas.proofs.Ledgers.{sum_by-drop-one}
use Rattle.hx_replicas.proofs.Wiping.{get_or-map_over, lent-quiet}
use Rattle.hx_replicas.proofs.slots.wipe_all.Goals as goal
use Rattle.hx_replicas.proofs.slots.wipe_all.Goals.{After-slot-item}
use Rattle.hx_replicas.proofs.slots.wipe_all.Given.{Over}

-- a slot's place is one of those that there were
within_slots : (g : Over) (c : After-slot-item g) → c.loop-slot.slot-index < length c.args.slots.now.items
within_slots g c = rw c.deref_mut-slot-items.ensures.value at c.loop-slot-test.true

-- and the slot is as it was
unchanged : (g : Over) (c : After-slot-item g) → get_or c.loop-slot.slot-items c.loop-slot.slot-index c.slot-item.result ≡ get_or c.args.slots.now.items c.loop-slot.slot-index c.slot-item.result
unchanged g c =
    get_or-map_over wiped c.args.slots.now.items c.loop-slot.slot-items c.loop-slot.slot-index c.slot-item.result (rw c.deref_mut-slot-items.ensures.value at c.loop-slot-test.true) c.loop-slot.invariant.items

pub loop-slot-init : goal.loop-slot-init
loop-slot-init g c = record { items = c.deref_mut-slot-items.ensures.value; made = refl; balanced = c.requires.balanced; later = omega arith; tried = refl; listed = refl }

pub wipe-requires-clause-fits : goal.wipe-requires-clause-fits
wipe-requires-clause-fits g c κs within =
    let point = (goal.at.wipe-requires-clause-fits g c).After-slot-item in
    rw (unchanged g point, c.loop-slot.invariant.listed) (c.requires.fits c.loop-slot.slot-index c.slot-item.result (within_slots g point))

pub wipe-requires-clause-none_out : goal.wipe-requires-clause-none_out
wipe-requires-clause-none_out g c κs within =
    let point = (goal.at.wipe-requires-clause-none_out g c).After-slot-item in
    rw (unchanged g point) (c.requires.none_out c.loop-slot.slot-index c.slot-item.result (within_slots g point))

pub wipe-requires-clause-room : goal.wipe-requires-clause-room
wipe-requires-clause-room g c κs within =
    let point = (goal.at.wipe-requires-clause-room g c).After-slot-item in
    let lt = within_slots g point in
    rw (unchanged g point)
    (omega (arith, sum_by-drop-one count_of c.args.slots.now.items c.loop-slot.slot-index c.slot-item.result lt, c.loop-slot.invariant.balanced, c.loop-slot.invariant.made))

pub loop-slot-preserved : goal.loop-slot-preserved
loop-slot-preserved g c =
    let point = (goal.at.loop-slot-preserved g c).After-slot-item in
    let xs = c.args.slots.now.items in
    let i = c.loop-slot.slot-index in
    let x = c.slot-item.result in
    let lt = within_slots g point in
    let quiet : lent (get_or xs i x).work ≡ 0 = lent-quiet _ (c.requires.none_out i x lt) in
    let taken : g.F.Factory.retired c.wipe.new.factory ≡ g.F.Factory.retired c.loop-slot.factory + in_place (get_or xs i x).handler = rw (← unchanged g point) c.wipe.ensures.retired in
    record {
      items = rw (c.wipe.ensures.slot, ← c.slot-item.is) (map_over_more wiped xs c.loop-slot.slot-items i x lt c.loop-slot.invariant.items c.slot-item.is);
      made = c.wipe.ensures.made ∙ c.loop-slot.invariant.made;
      balanced = omega (arith, sum_by-drop-one count_of xs i x lt, quiet, taken, c.loop-slot.invariant.balanced);
      later = omega (arith, c.wipe.ensures.later, c.loop-slot.invariant.later);
      tried = c.wipe.ensures.tried ∙ c.loop-slot.invariant.tried;
      listed = c.wipe.ensures.listed ∙ c.loop-slot.invariant.listed;
    }

pub returns-clause-retired : goal.returns-clause-retired
returns-clause-retired g c =
    let xs = c.args.slots.now.items in
    let none : sum_by count_of (drop c.loop-slot.slot-index xs) ≡ 0 = at_drop_all (λ ys. sum_by count_of ys) xs c.loop-slot.slot-index (rw c.deref_mut-slot-items.ensures.value at c.loop-slot-test.false) in
    omega (arith, none, c.loop-slot.invariant.balanced)

pub returns-clause-slots : goal.returns-clause-slots
returns-clause-slots g c = grind (arith, common_steps)
