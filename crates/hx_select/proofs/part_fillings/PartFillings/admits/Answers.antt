use Rattle.std.proofs.Common.{◌≡◌, ◌∙◌, ℕ, ◌+◌, ◌++◌, ◌∷◌, [], true, false, List, Some, refl, sym, ap, subst, arith}
use Rattle.std.proofs.lemmas.Grind.{common_steps}
use Rattle.std.specs.Prelude.{nat_lt, is_some, Option}
use Rattle.std.proofs.Math.ListN.{set}
use Rattle.std.proofs.lemmas.Bool.Decides.{nat_tests}
use Rattle.hx_ids.specs.declared.PartId.{PartId}
use Rattle.hx_model.specs.declared.ModelParts.{ModelParts}
use Rattle.hx_cluster.specs.declared.planning.Candidate.{Candidate}
use Rattle.hx_select.specs.declared.part_fillings.Filling.{Filling}
use Rattle.hx_select.specs.Fillings.{limit_in, filling_in}
use Rattle.hx_select.specs.PartFillings.{ArePartFillings}
use Rattle.hx_select.specs.Selection.{has_room}
use Rattle.hx_select.proofs.PartFilling.{counts, raised, has_some, judged, unjudged}
use Rattle.hx_select.proofs.part_fillings.PartFillings.admits.Goals as goal
use Rattle.hx_select.proofs.part_fillings.PartFillings.admits.Goals.{After-index}

module _ (c : After-index) (models : List ModelParts) (accepted : List Candidate)
    (are : ArePartFillings models c.args.index.now accepted c.args.self.now.part c.args.self.now.fillings.items)
    (bound : ℕ) (limit : limit_in models c.args.index.now c.args.candidate.now.part c.args.candidate.now.to ≡ Some bound) where
  at : c.place_of.new.self.part ≡ c.args.candidate.now.part
  at = c.place_of.ensures.part ∙ sym c.requires

  kept : ArePartFillings models c.args.index.now accepted c.args.candidate.now.part c.place_of.new.self.fillings.items
  kept = subst (λ (p : PartId). ArePartFillings models c.args.index.now accepted p c.place_of.new.self.fillings.items) at (c.in_ok-place.ensures.kept models accepted are)

  number : c.index.result.now.count ≡ filling_in c.args.index.now accepted c.args.candidate.now.part c.args.candidate.now.to
  number =
      counts models c.args.index.now accepted c.args.candidate.now.part c.place_of.new.self.fillings.items kept c.args.candidate.now.to c.in_ok-place.place c.index.result.now
      c.in_ok-place.ensures.place c.index.ensures (ap (λ (o : Option ℕ). is_some o) limit)

  room : nat_lt c.index.result.now.count bound ≡ has_room models c.args.index.now accepted c.args.candidate.now
  room = has_some models c.args.index.now accepted c.args.candidate.now bound c.index.result.now.count limit number

pub returns-then-count-bound-clause-answer : goal.returns-then-count-bound-clause-answer
returns-then-count-bound-clause-answer c = λ models accepted are limit.
    let is = room (goal.at.returns-then-count-bound-clause-answer c).After-index models accepted are c.args.bound limit in
    grind (arith, nat_tests, is, c.if-count-bound.true)

pub returns-then-count-bound-clause-kept : goal.returns-then-count-bound-clause-kept
returns-then-count-bound-clause-kept c = λ models accepted are limit.
    let then = (goal.at.returns-then-count-bound-clause-kept c).After-index in
    let is = room then models accepted are c.args.bound limit in
    let some : has_room models c.args.index.now accepted c.args.candidate.now ≡ true = grind (arith, nat_tests, is, c.if-count-bound.true) in
    let candidate = c.args.candidate.now in
    let f : Filling = record { state = candidate.to; count = c.index.result.now.count + 1 } in
    let fillings = set c.place_of.new.self.fillings.items c.in_ok-place.place f in
    judged models c.args.index.now accepted candidate c.place_of.new.self.part fillings true some
    (subst (λ (p : PartId). ArePartFillings models c.args.index.now (accepted ++ candidate ∷ []) p fillings) (sym (at then models accepted are c.args.bound limit))
    (raised models c.args.index.now accepted candidate.part c.place_of.new.self.fillings.items (kept then models accepted are c.args.bound limit) candidate refl
    c.in_ok-place.place c.index.result.now.count f c.in_ok-place.ensures.place refl (number then models accepted are c.args.bound limit)))

pub returns-clause-answer : goal.returns-clause-answer
returns-clause-answer c = λ models accepted are limit.
    let is = room (goal.at.returns-clause-answer c).After-index models accepted are c.args.bound limit in
    grind (arith, nat_tests, is, c.if-count-bound.false)

pub returns-clause-kept : goal.returns-clause-kept
returns-clause-kept c = λ models accepted are limit.
    let is = room (goal.at.returns-clause-kept c).After-index models accepted are c.args.bound limit in
    let none : has_room models c.args.index.now accepted c.args.candidate.now ≡ false = grind (arith, nat_tests, is, c.if-count-bound.false) in
    unjudged models c.args.index.now accepted c.args.candidate.now c.place_of.new.self.part c.place_of.new.self.fillings.items none (c.in_ok-place.ensures.kept models accepted are)

pub returns-in_err-place-clause-answer : goal.returns-in_err-place-clause-answer
returns-in_err-place-clause-answer c = grind (arith, common_steps)

pub returns-in_err-place-clause-kept : goal.returns-in_err-place-clause-kept
returns-in_err-place-clause-kept c = grind (arith, common_steps)

pub returns-in_err-place-clause-part : goal.returns-in_err-place-clause-part
returns-in_err-place-clause-part c = grind (arith, common_steps)
