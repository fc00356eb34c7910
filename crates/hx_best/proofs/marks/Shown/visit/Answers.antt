use Rattle.std.proofs.Common.{ℕ, ◌≡◌, ◌==◌, ◌||◌, ◌<◌, ◌∙◌, Bool, true, List, None, length, get_or, take, ap, sym, subst, refl, arith}
use Rattle.std.specs.Prelude.{nat_lt}
use Rattle.std.specs.List.{list_any, list_all}
use Rattle.std.proofs.lemmas.Bool.Decides.{nat_tests}
use Rattle.std.proofs.lemmas.List.{take_all}
use Rattle.std.proofs.lemmas.List.Folds.{list_any_more}
use Rattle.hx_ids.specs.declared.SessionId.{SessionId}
use Rattle.hx_ids.specs.declared.InstanceId.{InstanceId}
use Rattle.hx_cluster.specs.declared.planning.View.{View}
use Rattle.hx_best.specs.Wants.{by_instance}
use Rattle.hx_best.specs.declared.visits.Visit.{Visit}
use Rattle.hx_best.specs.Orders.{IsOnce}
use Rattle.hx_best.specs.Visits.{is_visited}
use Rattle.hx_best.specs.Places.{Placing, order_of}
use Rattle.hx_best.proofs.Visiting.{none_added, adds_same, adds_more, turned, visited_already}
use Rattle.hx_best.proofs.Spanning.{all_there}
use Rattle.hx_best.proofs.marks.Shown.visit.Goals as goal
use Rattle.hx_best.proofs.marks.Shown.visit.Goals.{After-places_of-places}

order_is : (c : After-places_of-places) → c.order-order.result.now ≡ order_of c.args.self.now.0
order_is c = c.order-order.ensures ∙ ap (λ (v : View). by_instance v.live) (c.index.ensures ∙ ap (λ (x : Placing). x.view) c.places.ensures)

within : (c : After-places_of-places) → list_all (λ e. nat_lt e.1 (length (order_of c.args.self.now.0))) c.places_of-places.result.now ≡ true
within c = subst (λ (live : List (SessionId × InstanceId)). list_all (λ e. nat_lt e.1 (length live)) c.places_of-places.result.now ≡ true) (order_is c) c.places_of-places.ensures.within

exact : (c : After-places_of-places) → (k : ℕ) (d : SessionId × InstanceId) → k < length (order_of c.args.self.now.0)
    → list_any (λ e. e.1 == k) c.places_of-places.result.now ≡ ((get_or (order_of c.args.self.now.0) k d).0.0 == c.args.session.0)
exact c =
    subst (λ (live : List (SessionId × InstanceId)). (k : ℕ) (d : SessionId × InstanceId) → k < length live → list_any (λ e. e.1 == k) c.places_of-places.result.now ≡ ((get_or live k d).0.0 == c.args.session.0))
    (order_is c) c.places_of-places.ensures.exact

pub loop-number-init : goal.loop-number-init
loop-number-init c = none_added (length (order_of c.args.self.now.0)) None _ c.args.visits.now (λ k lt. refl)

pub loop-number-preserved : goal.loop-number-preserved
loop-number-preserved c =
    let places = c.places_of-places.result.now in
    let j = c.loop-number.number-index in
    let e : SessionId × ℕ = (record { 0 = 0 }, 0) in
    let few : (get_or places j e).1 < length (order_of c.args.self.now.0) =
    grind (arith, nat_tests, all_there (λ e. nat_lt e.1 (length (order_of c.args.self.now.0))) places j e (within (goal.at.loop-number-preserved c).After-places_of-places) c.loop-number-test.true) in
    adds_same (length (order_of c.args.self.now.0)) None (λ k. list_any (λ e. e.1 == k) (take j places) || (k == (get_or places j e).1)) _ c.args.visits.now c.add.new.self
    (λ k lt. ap (λ (b : Bool). list_any (λ e. e.1 == k) (take j places) || b) (turned k (get_or places j e).1) ∙ sym (list_any_more (λ e. e.1 == k) places j e c.loop-number-test.true))
    (adds_more (length (order_of c.args.self.now.0)) None (λ k. list_any (λ e. e.1 == k) (take j places)) (λ k. k == (get_or places j e).1) c.args.visits.now c.loop-number.visits c.add.new.self
    c.loop-number.invariant (c.in_ok-add.ensures (length (order_of c.args.self.now.0)) few))

pub returns : goal.returns
returns c d =
    let places = c.places_of-places.result.now in
    adds_same (length (order_of c.args.self.now.0)) None (λ k. list_any (λ e. e.1 == k) (take c.loop-number.number-index places)) _ c.args.visits.now c.loop-number.visits
    (λ k lt. ap (list_any (λ e. e.1 == k)) (take_all c.loop-number.number-index places c.loop-number-test.false) ∙ exact (goal.at.returns c).After-places_of-places k d lt) c.loop-number.invariant

pub returns-then-has_session : goal.returns-then-has_session
returns-then-has_session c d =
    let order = c.order-order.ensures ∙ ap (λ (v : View). by_instance v.live) (c.index.ensures ∙ ap (λ (x : Placing). x.view) c.places.ensures) in
    let live = c.as_slice.ensures ∙ order in
    let found = c.has_session.ensures c.if-has_session.true in
    visited_already (order_of c.args.self.now.0) c.args.session c.args.visits.now found.0 d (subst IsOnce order (c.is_once.ensures c.if-is_once.true))
    (subst (λ (live : List (SessionId × InstanceId)). found.0 < length live) live found.1)
    (subst (λ (vs : List Visit). is_visited vs found.0 ≡ true) c.as_slice-then-is_once.ensures.same found.2)
    (subst (λ (live : List (SessionId × InstanceId)). (get_or live found.0 d).0.0 ≡ c.args.session.0) live (found.3 d))
