use Rattle.std.proofs.Common.{refl, get_or}
use Rattle.hx_best.specs.Places.{order_of}
use Rattle.hx_best.specs.Visits.{mark_at}
use Rattle.hx_best.proofs.Marking.{map_marked, map_done}
use Rattle.hx_best.proofs.marks.Shown.mark_map.Goals as goal

pub loop-instance-init : goal.loop-instance-init
loop-instance-init c = rw c.requires (record { marked = λ k d lt. refl; within = λ k e. cc })

pub loop-instance-preserved : goal.loop-instance-preserved
loop-instance-preserved c = record {
  marked = λ k d lt.
      map_marked c.args.self.now.0 c.args.self.now.1 (get_or (order_of c.args.self.now.0) k d).1 (mark_at c.loop-instance.visits k) (mark_at c.mark_on.new.visits k) c.loop-instance.instance-index (record { place = 0; goal = _ })
      c.args.map.now (record { 0 = 0 }, record { 0 = 0 }) c.loop-instance-test.true (c.loop-instance.invariant.marked k d lt) refl ((c.in_ok-mark_on.ensures d).marks k lt);
  within = (c.in_ok-mark_on.ensures (record { 0 = 0 }, record { 0 = 0 })).within c.loop-instance.invariant.within;
}

pub returns : goal.returns
returns c =
    map_done c.args.self.now.0 c.args.self.now.1 c.loop-instance.visits c.loop-instance.instance-index c.loop-instance.invariant.within c.args.map.now c.loop-instance-test.false c.loop-instance.invariant.marked
