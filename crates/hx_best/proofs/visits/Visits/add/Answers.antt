use Rattle.std.proofs.Common.{◌≡◌, ℕ, ◌<◌, ◌==◌, true, false, List, Option, length, get_or, set, ap, subst, sym, ◌∙◌, arith}
use Rattle.std.specs.List.{insert}
use Rattle.std.specs.Option.{option_or}
use Rattle.std.proofs.lemmas.Bool.Decides.{nat_tests}
use Rattle.std.proofs.lemmas.List.{get_or_read}
use Rattle.std.proofs.lemmas.List.Edits.{insert_end}
use Rattle.hx_best.specs.declared.marks.Mark.{Mark}
use Rattle.hx_best.specs.declared.visits.Visit.{Visit}
use Rattle.hx_best.specs.Visits.{rises, Adds}
use Rattle.hx_best.proofs.Visiting.{with_visit, IsPlace, place_is, inserted, merged, still_rises, added}
use Rattle.hx_best.proofs.visits.Visits.add.Goals as goal
use Rattle.hx_best.proofs.visits.Visits.add.Goals.{After-place_of-place, After-or-mark, In_ok-push, In_ok-insert}

placed : (c : After-place_of-place) → IsPlace c.args.visit c.self.inside.visits.items c.place_of-place.result
placed c =
    subst (λ (vs : List Visit). IsPlace c.args.visit vs c.place_of-place.result) c.as_slice.ensures.value
    (place_is c.args.visit c.as_slice.result.now c.place_of-place.result c.place_of-place.ensures.within c.place_of-place.ensures.point)

written : (c : After-or-mark) → IsPlace c.args.visit c.self.inside.visits.items c.place_of-place.result
    → set c.self.inside.visits.items c.place_of-place.result (record { number = c.args.visit.number; mark = c.or-mark.result }) ≡ with_visit c.args.visit c.self.inside.visits.items
written c at =
    let vs = c.self.inside.visits.items in
    let place = c.place_of-place.result in
    let d = c.index-then-index-visit.result.now in
    let fits = at.fits in
    let lt : place < length vs = omega arith in
    let here = get_or_read vs place c.index.result.now lt c.index.ensures d in
    let number : (get_or vs place d).number ≡ c.args.visit.number = ap (λ (w : Visit). w.number) (sym here) ∙ c.if-index-visit.true in
    let same : ((get_or vs place d).number == c.args.visit.number) ≡ true = grind (arith, nat_tests, number) in
    ap (λ (m : Option Mark). set vs place (record { number = c.args.visit.number; mark = m }))
    (c.or-mark.ensures ∙ ap (λ (w : Visit). option_or w.mark c.args.visit.mark) c.index-then-index-visit.ensures)
    ∙ merged c.args.visit vs place d at lt same

put : (c : In_ok-insert) → IsPlace c.args.visit c.self.inside.visits.items c.place_of-place.result → c.insert.new.self.items ≡ with_visit c.args.visit c.self.inside.visits.items
put c at =
    let vs = c.self.inside.visits.items in
    let place = c.place_of-place.result in
    let other : (c.index.result.now.number == c.args.visit.number) ≡ false = grind (arith, nat_tests, c.if-index-visit.false) in
    c.in_ok-insert.ensures.items
    ∙ inserted c.args.visit vs place at (λ d lt. ap (λ (v : Visit). v.number == c.args.visit.number) (sym (get_or_read vs place c.index.result.now lt c.index.ensures d)) ∙ other)

pushed : (c : In_ok-push) → IsPlace c.args.visit c.self.inside.visits.items c.place_of-place.result → c.push.new.self.items ≡ with_visit c.args.visit c.self.inside.visits.items
pushed c at =
    let vs = c.self.inside.visits.items in
    let place = c.place_of-place.result in
    let end : place ≡ length vs = omega arith in
    c.in_ok-push.ensures.items ∙ sym (insert_end vs c.args.visit) ∙ ap (λ (n : ℕ). insert vs n c.args.visit) (sym end) ∙ inserted c.args.visit vs place at (λ d lt. absurd (omega arith))

pub invariant_of-self : goal.invariant_of-self
invariant_of-self c =
    subst (λ (vs : List Visit). rises 0 vs ≡ true) (sym (pushed c (placed (goal.at.invariant_of-self c).After-place_of-place)))
    (still_rises 0 c.args.visit c.self.inside.visits.items c.self.invariant (omega arith))

pub invariant_of-self-then-index-visit : goal.invariant_of-self-then-index-visit
invariant_of-self-then-index-visit c =
    let b = goal.at.invariant_of-self-then-index-visit c in
    subst (λ (vs : List Visit). rises 0 vs ≡ true) (sym (written b.After-or-mark (placed b.After-place_of-place)))
    (still_rises 0 c.args.visit c.self.inside.visits.items c.self.invariant (omega arith))

pub invariant_of-self-in-Continue-branch-2 : goal.invariant_of-self-in-Continue-branch-2
invariant_of-self-in-Continue-branch-2 c =
    subst (λ (vs : List Visit). rises 0 vs ≡ true) (sym (put c (placed (goal.at.invariant_of-self-in-Continue-branch-2 c).After-place_of-place)))
    (still_rises 0 c.args.visit c.self.inside.visits.items c.self.invariant (omega arith))

pub returns-in_ok-push : goal.returns-in_ok-push
returns-in_ok-push c n lt =
    subst (λ (vs : List Visit). Adds n (λ k. k == c.args.visit.number) c.args.visit.mark vs c.push.new.self.items) c.self.view_is
    (subst (λ (vs : List Visit). Adds n (λ k. k == c.args.visit.number) c.args.visit.mark c.self.inside.visits.items vs) (sym (pushed c (placed (goal.at.returns-in_ok-push c).After-place_of-place)))
    (added c.args.visit c.self.inside.visits.items c.self.invariant n lt))

pub returns-then-index-visit : goal.returns-then-index-visit
returns-then-index-visit c n lt =
    let b = goal.at.returns-then-index-visit c in
    subst (λ (vs : List Visit). Adds n (λ k. k == c.args.visit.number) c.args.visit.mark vs (set c.self.inside.visits.items c.place_of-place.result (record { number = c.args.visit.number; mark = c.or-mark.result }))) c.self.view_is
    (subst (λ (vs : List Visit). Adds n (λ k. k == c.args.visit.number) c.args.visit.mark c.self.inside.visits.items vs) (sym (written b.After-or-mark (placed b.After-place_of-place)))
    (added c.args.visit c.self.inside.visits.items c.self.invariant n lt))

pub returns-in_ok-insert : goal.returns-in_ok-insert
returns-in_ok-insert c n lt =
    subst (λ (vs : List Visit). Adds n (λ k. k == c.args.visit.number) c.args.visit.mark vs c.insert.new.self.items) c.self.view_is
    (subst (λ (vs : List Visit). Adds n (λ k. k == c.args.visit.number) c.args.visit.mark c.self.inside.visits.items vs) (sym (put c (placed (goal.at.returns-in_ok-insert c).After-place_of-place)))
    (added c.args.visit c.self.inside.visits.items c.self.invariant n lt))
