use Rattle.std.proofs.Common.{◌≡◌, ◌∙◌, ◌++◌, ◌<◌, ◌≤◌, true, None, [], ap, subst, sym, length, get_or, List, Option, arith}
use Rattle.std.specs.List.{cons_option}
use Rattle.hx_ids.specs.declared.SessionId.{SessionId}
use Rattle.hx_ids.specs.declared.InstanceId.{InstanceId}
use Rattle.hx_cluster.specs.declared.planning.Target.{Target}
use Rattle.hx_cluster.specs.declared.planning.View.{View}
use Rattle.hx_best.specs.declared.visits.Visit.{Visit}
use Rattle.hx_best.specs.Wants.{by_instance}
use Rattle.hx_best.specs.Places.{Placing, order_of, mark_of, wants_at, target_at}
use Rattle.hx_best.specs.Visits.{rises, mark_at, is_visited}
use Rattle.hx_best.proofs.Found.{found_more}
use Rattle.hx_best.proofs.Gathered.{own_mark, own_visited, found_done}
use Rattle.hx_best.proofs.marks.Shown.push_targets.Goals as goal
use Rattle.hx_best.proofs.marks.Shown.push_targets.Goals.{After-as_slice-visit-items, In-loop-visit}

-- what look-ups past the end give
abbrev no_visit : Visit
no_visit = record { number = 0; mark = None }

abbrev nobody : SessionId × InstanceId
nobody = (record { 0 = 0 }, record { 0 = 0 })

live_is : (c : After-as_slice-visit-items) → c.live-live.result.now ≡ order_of c.args.self.now.0
live_is c = c.live-live.ensures ∙ ap (λ (view : View). by_instance view.live) (c.index.ensures ∙ ap (λ (x : Placing). x.view) c.places.ensures)

shown : (c : In-loop-visit) → let v : Visit = get_or c.as_slice-visit-items.result.now c.loop-visit.visit-index no_visit in v.number < length (order_of c.args.self.now.0)
shown c =
    let v : Visit = get_or c.as_slice-visit-items.result.now c.loop-visit.visit-index no_visit in
    c.requires.marked.within v.number
    (subst (λ (vs : List Visit). is_visited vs v.number ≡ true) c.as_slice-visit-items.ensures.same (own_visited c.as_slice-visit-items.result.now c.loop-visit.visit-index no_visit c.loop-visit-test.true))

pub bounds-live-visit : goal.bounds-live-visit
bounds-live-visit c =
    let few = shown (goal.at.bounds-live-visit c).In-loop-visit in
    let same = ap length (live_is (goal.at.bounds-live-visit c).After-as_slice-visit-items) in
    omega (arith, few, same)

pub offset_bounds-live-visit : goal.offset_bounds-live-visit
offset_bounds-live-visit c =
    let few = shown (goal.at.offset_bounds-live-visit c).In-loop-visit in
    let same = ap length (live_is (goal.at.offset_bounds-live-visit c).After-as_slice-visit-items) in
    omega (arith, few, same, c.live-live.type_inv.1)

pub target-requires-clause-marked : goal.target-requires-clause-marked
target-requires-clause-marked c =
    let x = c.args.self.now.0 in
    let p = c.args.self.now.1 in
    let j = c.loop-visit.visit-index in
    let vs = c.as_slice-visit-items.result.now in
    let v : Visit = get_or vs j no_visit in
    let same = c.as_slice-visit-items.ensures.same in
    let own = own_mark 0 vs j no_visit (subst (λ (vs : List Visit). rises 0 vs ≡ true) (sym same) c.as_slice-visit-items.ensures.rising) c.loop-visit-test.true in
    let few = shown (goal.at.target-requires-clause-marked c).In-loop-visit in
    sym own ∙ ap (λ (vs : List Visit). mark_at vs v.number) same ∙ c.requires.marked.each v.number nobody few
    ∙ ap (λ (live : List (SessionId × InstanceId)). mark_of x p (wants_at x p) (get_or live v.number nobody).1) (sym (live_is (goal.at.target-requires-clause-marked c).After-as_slice-visit-items))

pub loop-visit-preserved : goal.loop-visit-preserved
loop-visit-preserved c =
    let x = c.args.self.now.0 in
    let p = c.args.self.now.1 in
    let j = c.loop-visit.visit-index in
    let v : Visit = get_or c.as_slice-visit-items.result.now j no_visit in
    let here = c.target.ensures ∙ ap (λ (live : List (SessionId × InstanceId)). target_at x p (get_or live v.number nobody)) (live_is (goal.at.loop-visit-preserved c).After-as_slice-visit-items) in
    let same = c.as_slice-visit-items.ensures.same in
    found_more (λ v. target_at x p (get_or (order_of x) v.number nobody)) c.args.found.now.items c.loop-visit.found.items c.push_some.new.items.items c.args.visits.now j no_visit
    (subst (λ (vs : List Visit). j < length vs) same c.loop-visit-test.true) c.loop-visit.invariant
    (c.in_ok-push_some.ensures ∙ ap (λ (o : Option Target). c.loop-visit.found.items ++ cons_option o []) (here ∙ ap (λ (vs : List Visit). target_at x p (get_or (order_of x) (get_or vs j no_visit).number nobody)) same))

pub returns : goal.returns
returns c =
    found_done c.args.self.now.0 c.args.self.now.1 c.args.visits.now c.args.past c.args.found.now.items c.loop-visit.found.items c.loop-visit.visit-index nobody
    c.requires c.as_slice-visit-items.ensures.rising (subst (λ (vs : List Visit). length vs ≤ c.loop-visit.visit-index) c.as_slice-visit-items.ensures.same c.loop-visit-test.false) c.loop-visit.invariant
