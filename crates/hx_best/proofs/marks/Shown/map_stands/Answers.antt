use Rattle.hx_ids.specs.declared.InstanceId.{InstanceId}
use Rattle.hx_ids.specs.declared.StateId.{StateId}
use Rattle.hx_best.proofs.Entries.{map_next, noted_next, map_done}
use Rattle.hx_best.proofs.marks.Shown.map_stands.Goals as goal

pub loop-instance-preserved : goal.loop-instance-preserved
loop-instance-preserved c =
    let x = c.args.self.now.0 in
    let p = c.args.self.now.1 in
    let k = c.loop-instance.instance-index in
    let d : InstanceId × StateId = (record { 0 = 0 }, record { 0 = 0 }) in
    record {
      stand = map_next x p c.args.map.now k d c.loop-instance-test.true c.loop-instance.invariant.stand c.in-Some.ensures.stands.0;
      noted = noted_next x p (λ (e : InstanceId × StateId). e.0) c.args.map.now c.loop-instance.met c.entry.new.met k d c.loop-instance-test.true c.loop-instance.invariant.noted c.in-Some.ensures.noted;
    }

pub returns : goal.returns
returns c all =
    map_done c.args.self.now.0 c.args.self.now.1 c.args.map.now c.loop-instance.instance-index c.loop-instance.met c.loop-instance-test.false c.loop-instance.invariant.stand
    c.loop-instance.invariant.noted (c.has_all_rows.ensures all)
