use Rattle.std.proofs.Common.{◌≡◌, subst, length, get_or, arith}
use Rattle.hx_ids.specs.declared.InstanceId.{InstanceId}
use Rattle.hx_ids.specs.declared.StateId.{StateId}
use Rattle.std.proofs.Common.{true}
use Rattle.hx_best.specs.Goals.{best_below}
use Rattle.hx_best.specs.Places.{Placing, model_in}
use Rattle.hx_best.specs.Still.{stands}
use Rattle.hx_best.proofs.Marking.{byte_small}
use Rattle.hx_best.proofs.Entries.{list_next, noted_next, list_done}
use Rattle.hx_best.proofs.marks.Shown.list_stands.Goals as goal

pub loop-instance-preserved : goal.loop-instance-preserved
loop-instance-preserved c =
    let x = c.args.self.now.0 in
    let p = c.args.self.now.1 in
    let k = c.loop-instance.instance-index in
    let d : InstanceId = record { 0 = 0 } in
    let below = subst (λ (x : Placing). c.below.result ≡ best_below (model_in x) x.resource.ideal.replicas (length x.view.live) c.loop-instance.rank) c.places.ensures c.below.ensures in
    let small = byte_small c.in-Some.eligible in
    record {
      stand = list_next x p c.args.list.now k c.loop-instance.rank c.in-Some.eligible d c.loop-instance-test.true c.loop-instance.invariant.stand
          (subst (λ (t : StateId). stands x p (get_or c.args.list.now k d) t ≡ true) below c.in-Some.ensures.stands.0) c.in-Some.ensures.stands.1;
      noted = noted_next x p (λ (i : InstanceId). i) c.args.list.now c.loop-instance.met c.entry.new.met k d c.loop-instance-test.true c.loop-instance.invariant.noted c.in-Some.ensures.noted;
      few = omega (arith, small, c.loop-instance.invariant.few);
    }

pub returns : goal.returns
returns c all =
    list_done c.args.self.now.0 c.args.self.now.1 c.args.list.now c.loop-instance.instance-index c.loop-instance.rank c.loop-instance.met c.loop-instance-test.false c.loop-instance.invariant.stand
    c.loop-instance.invariant.noted (c.has_all_rows.ensures all)
