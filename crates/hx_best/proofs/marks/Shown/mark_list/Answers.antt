use Rattle.std.proofs.Common.{◌≡◌, ◌∙◌, ℕ, ◌+◌, ap, refl, sym, subst, length, get_or, arith}
use mir.Val.{bool_byte}
use Rattle.hx_best.specs.Goals.{best_below, is_eligible}
use Rattle.hx_best.specs.Places.{Placing, model_in, order_of}
use Rattle.hx_best.specs.Visits.{mark_at}
use Rattle.hx_best.proofs.Marking.{count_more, byte_small, list_marked, list_done}
use Rattle.hx_best.proofs.marks.Shown.mark_list.Goals as goal

pub loop-place-init : goal.loop-place-init
loop-place-init c = rw c.requires (record { marked = λ k d lt. refl; within = λ k e. cc; rank = refl; few = omega arith })

pub loop-place-preserved : goal.loop-place-preserved
loop-place-preserved c =
    let goal_is = subst (λ (x : Placing). c.below.result ≡ best_below (model_in x) x.resource.ideal.replicas (length x.view.live) c.loop-place.rank) c.places.ensures c.below.ensures in
    let small = byte_small c.is_eligible.result in
    record {
      marked = λ k d lt.
          list_marked c.args.self.now.0 c.args.self.now.1 (get_or (order_of c.args.self.now.0) k d).1 (mark_at c.loop-place.visits k) (mark_at c.mark_on.new.visits k) c.loop-place.place
          (record { place = c.loop-place.place; goal = c.below.result }) c.args.list.now (record { 0 = 0 }) c.loop-place.rank c.loop-place-test.true (c.loop-place.invariant.marked k d lt) refl goal_is
          c.loop-place.invariant.rank ((c.in_ok-mark_on.ensures d).marks k lt);
      within = (c.in_ok-mark_on.ensures (record { 0 = 0 }, record { 0 = 0 })).within c.loop-place.invariant.within;
      rank = ap (λ (n : ℕ). n + bool_byte c.is_eligible.result) c.loop-place.invariant.rank
          ∙ rw c.is_eligible.ensures (sym (count_more (is_eligible c.args.self.now.0.view c.args.self.now.1) c.args.list.now c.loop-place.place (record { 0 = 0 }) c.loop-place-test.true));
      few = omega (arith, small, c.loop-place.invariant.few);
    }

pub returns : goal.returns
returns c =
    list_done c.args.self.now.0 c.args.self.now.1 c.loop-place.visits c.loop-place.place c.loop-place.invariant.within c.args.list.now c.in_ok-past.past c.loop-place-test.false c.loop-place.invariant.marked
    c.in_ok-past.ensures
