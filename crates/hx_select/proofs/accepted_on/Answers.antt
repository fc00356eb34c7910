use Rattle.std.proofs.Common.{◌≡◌, ◌∙◌, ◌++◌, ◌∷◌, [], Bool, List, get_or, append-nil, sym, ap, subst, arith}
use Rattle.std.proofs.lemmas.Grind.{common_steps}
use Rattle.std.specs.Prelude.{if◌then◌else◌}
use Rattle.std.specs.List.{fold}
use Rattle.hx_lists.specs.Choices.{with_chosen}
use Rattle.hx_cluster.specs.declared.planning.Candidate.{Candidate}
use Rattle.hx_select.specs.PartFillings.{ArePartFillings}
use Rattle.hx_select.specs.Selection.{has_room}
use Rattle.hx_select.proofs.Walk.{walked_more}
use Rattle.hx_select.proofs.accepted_on.Goals as goal
use Rattle.hx_select.proofs.accepted_on.Goals.{then-branch+in_ok-push, else-branch}
use Rattle.hx_cluster.proofs.Absent.{no_candidate}

pub loop-candidate-init : goal.loop-candidate-init
loop-candidate-init c =
    let models = c.args.models.now in
    let view = c.args.index.now in
    let none : c.reserve.new.self ≡ [] = c.reserve.ensures ∙ c.new-accepted.ensures in
    record {
      accepting = ap (λ (cs : List Candidate). fold (with_chosen (has_room models view)) cs c.args.candidates.now) none;
      filled =
          subst (λ (cs : List Candidate). ArePartFillings models view cs c.new-fillings.result.part c.new-fillings.result.fillings.items) (sym none)
          (c.new-fillings.ensures.fillings models view);
      later = λ k d ge long. c.new-fillings.ensures.first (get_or c.args.candidates.now k d).part;
    }

pub loop-candidate-preserved : goal.loop-candidate-preserved
loop-candidate-preserved c =
    let models = c.args.models.now in
    let view = c.args.index.now in
    let at = c.loop-candidate in
    let candidate = get_or c.args.candidates.now at.candidate-index no_candidate in
    let chosen : Bool → List Candidate = λ b. at.accepted ++ (if b then candidate ∷ [] else []) in
    let answer = c.in_ok-accepts.ensures.answer at.accepted at.invariant.filled in
    let is : c.if-branch.accepted ≡ with_chosen (has_room models view) at.accepted candidate =
    elim c.if-branch.branch [
      | then-branch+in_ok-push w ↦ w.accepted-is ∙ w.in_ok-push.ensures.ok ∙ ap chosen (sym w.if-branch.true ∙ answer)
      | else-branch w ↦ w.accepted-is ∙ sym (append-nil at.accepted) ∙ ap chosen (sym w.if-branch.false ∙ answer)
    ] in
    walked_more models view c.args.candidates.now at.candidate-index no_candidate at.accepted c.if-branch.accepted at.fillings.part c.accepts.new.self.part at.fillings.fillings.items
    c.accepts.new.self.fillings.items c.requires.by_part c.loop-candidate-test.true at.invariant c.in_ok-accepts.ensures.part is (c.in_ok-accepts.ensures.kept at.accepted at.invariant.filled)

pub returns : goal.returns
returns c = grind (arith, common_steps)
