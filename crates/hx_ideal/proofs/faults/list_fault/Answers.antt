use Rattle.std.proofs.Common.{◌∙◌, refl, sym, arith}
use Rattle.hx_lists.proofs.Known.{known_none, place-known}
use Rattle.hx_ideal.proofs.Entries.{known_ids}
use Rattle.hx_lists.proofs.First.{answer_behind-more}
use Rattle.hx_ideal.proofs.faults.list_fault.Goals as goal

pub loop-place-init : goal.loop-place-init
loop-place-init c = record { told = refl; known = known_none c.args.instances }

pub id_fault-requires : goal.id_fault-requires
id_fault-requires c = omega (arith, place-known (λ i. i.0) c.args.instances c.loop-place.place c.args.list.now c.loop-place.auto.place-end c.loop-place.invariant.known)

pub loop-place-preserved : goal.loop-place-preserved
loop-place-preserved c =
    let none = sym c.id_fault.ensures ∙ c.in_default.is in
    record {
      told = answer_behind-more _ c.args.list.now c.loop-place.place _ c.loop-place-test.true none ∙ c.loop-place.invariant.told;
      known = known_ids c.args.instances c.args.part c.args.list.now c.loop-place.place _ c.loop-place-test.true none c.loop-place.invariant.known;
    }
