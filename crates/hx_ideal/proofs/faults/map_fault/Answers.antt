use Rattle.std.proofs.Common.{◌∙◌, refl, sym, arith}
use Rattle.hx_lists.proofs.Known.{known_none, place-known}
use Rattle.hx_ideal.proofs.Entries.{known_entries}
use Rattle.hx_lists.proofs.First.{answer_behind-more}
use Rattle.hx_ideal.proofs.faults.map_fault.Goals as goal

pub loop-place-init : goal.loop-place-init
loop-place-init c = record { told = refl; known = known_none c.args.instances }

pub entry_fault-requires : goal.entry_fault-requires
entry_fault-requires c = omega (arith, place-known (λ e. e.0.0) c.args.instances c.loop-place.place c.args.map.now c.loop-place.auto.place-end c.loop-place.invariant.known)

pub loop-place-preserved : goal.loop-place-preserved
loop-place-preserved c =
    let none = sym c.entry_fault.ensures ∙ c.in_default.is in
    record {
      told = answer_behind-more _ c.args.map.now c.loop-place.place _ c.loop-place-test.true none ∙ c.loop-place.invariant.told;
      known = known_entries c.args.instances c.args.states.now c.args.part c.args.map.now c.loop-place.place _ c.loop-place-test.true none c.loop-place.invariant.known;
    }
