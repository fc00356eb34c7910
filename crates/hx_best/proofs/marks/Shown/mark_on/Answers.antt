use Rattle.std.proofs.Common.{ℕ, ◌≡◌, ◌==◌, ◌<◌, ◌≤◌, ◌∙◌, List, Some, length, get_or, ap, sym, subst, arith}
use Rattle.hx_ids.specs.declared.SessionId.{SessionId}
use Rattle.hx_ids.specs.declared.InstanceId.{InstanceId}
use Rattle.hx_cluster.specs.declared.planning.View.{View}
use Rattle.hx_best.specs.Wants.{by_instance}
use Rattle.hx_best.specs.Places.{Placing, order_of}
use Rattle.hx_best.proofs.Visiting.{from_to, adds_same, span_none, span_more}
use Rattle.hx_best.proofs.marks.Shown.mark_on.Goals as goal
use Rattle.hx_best.proofs.marks.Shown.mark_on.Goals.{After-places_on-first}

order_is : (c : After-places_on-first) → c.order.result.now ≡ order_of c.args.self.now.0
order_is c = c.order.ensures ∙ ap (λ (v : View). by_instance v.live) (c.index.ensures ∙ ap (λ (x : Placing). x.view) c.places.ensures)

within : (c : After-places_on-first) → c.places_on-first.result.1 ≤ length (order_of c.args.self.now.0)
within c = subst (λ (live : List (SessionId × InstanceId)). c.places_on-first.result.1 ≤ length live) (order_is c) c.places_on-first.ensures.within

exact : (c : After-places_on-first) → (k : ℕ) (d : SessionId × InstanceId) → k < length (order_of c.args.self.now.0)
    → ((get_or (order_of c.args.self.now.0) k d).1.0 == c.args.instance.0) ≡ from_to c.places_on-first.result.0 c.places_on-first.result.1 k
exact c =
    subst (λ (live : List (SessionId × InstanceId)). (k : ℕ) (d : SessionId × InstanceId) → k < length live → ((get_or live k d).1.0 == c.args.instance.0) ≡ from_to c.places_on-first.result.0 c.places_on-first.result.1 k)
    (order_is c) c.places_on-first.ensures.exact

pub loop-number-init : goal.loop-number-init
loop-number-init c = span_none (length (order_of c.args.self.now.0)) (Some c.args.mark) c.places_on-first.result.0 c.places_on-first.result.0 c.args.visits.now c.args.visits.now c.args.visits.now

pub loop-number-preserved : goal.loop-number-preserved
loop-number-preserved c =
    let few = within (goal.at.loop-number-preserved c).After-places_on-first in
    span_more (length (order_of c.args.self.now.0)) (Some c.args.mark) c.places_on-first.result.0 c.loop-number.number c.args.visits.now c.loop-number.visits c.add.new.self
    c.loop-number.auto.number c.loop-number.invariant (c.in_ok-add.ensures (length (order_of c.args.self.now.0)) (omega arith))

pub returns : goal.returns
returns c d =
    let last : c.loop-number.number ≡ c.places_on-first.result.1 = omega arith in
    adds_same (length (order_of c.args.self.now.0)) (Some c.args.mark) (from_to c.places_on-first.result.0 c.loop-number.number) _ c.args.visits.now c.loop-number.visits
    (λ k lt. ap (λ (n : ℕ). from_to c.places_on-first.result.0 n k) last ∙ sym (exact (goal.at.returns c).After-places_on-first k d lt)) c.loop-number.invariant
