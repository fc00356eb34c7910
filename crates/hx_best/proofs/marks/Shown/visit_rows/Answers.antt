use Rattle.std.proofs.Common.{ℕ, ◌==◌, ◌||◌, ◌∙◌, None, length, get_or, take, ap, sym, refl}
use Rattle.std.specs.List.{list_any}
use Rattle.std.proofs.lemmas.List.{take_all}
use Rattle.std.proofs.lemmas.List.Folds.{list_any_more}
use Rattle.hx_cluster.specs.declared.state.Row.{Row}
use Rattle.hx_best.specs.Places.{order_of}
use Rattle.hx_best.proofs.Visiting.{none_added, adds_same, adds_more}
use Rattle.hx_best.proofs.marks.Shown.visit_rows.Goals as goal

pub loop-row-init : goal.loop-row-init
loop-row-init c d = none_added (length (order_of c.args.self.now.0)) None _ c.args.visits.now (λ k lt. refl)

pub loop-row-preserved : goal.loop-row-preserved
loop-row-preserved c d =
    let n = length (order_of c.args.self.now.0) in
    let rows = c.rows-rows.result.now in
    let j = c.loop-row.row-index in
    let r : Row = record { session = record { 0 = 0 }; part = record { resource = record { 0 = 0 }; index = 0 }; state = record { 0 = 0 } } in
    let passes : ℕ → Row → _ = λ k r. (get_or (order_of c.args.self.now.0) k d).0.0 == r.session.0 in
    adds_same n None (λ k. list_any (passes k) (take j rows) || passes k (get_or rows j r)) _ c.args.visits.now c.visit.new.visits
    (λ k lt. sym (list_any_more (passes k) rows j r c.loop-row-test.true))
    (adds_more n None (λ k. list_any (passes k) (take j rows)) (λ k. passes k (get_or rows j r)) c.args.visits.now c.loop-row.visits c.visit.new.visits (c.loop-row.invariant d) (c.in_ok-visit.ensures d))

pub returns : goal.returns
returns c d =
    let rows = c.rows-rows.result.now in
    adds_same (length (order_of c.args.self.now.0)) None _ _ c.args.visits.now c.loop-row.visits
    (λ k lt. ap (list_any (λ r. (get_or (order_of c.args.self.now.0) k d).0.0 == r.session.0)) (take_all c.loop-row.row-index rows c.loop-row-test.false ∙ c.rows-rows.ensures)) (c.loop-row.invariant d)
